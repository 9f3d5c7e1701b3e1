-- `listing::put_line` meets its contract.
use Rattle.std.proofs.Common.{arith}
use Rattle.listing.specs.Listing.{line_of}
use Rattle.listing.proofs.Lines.{line_length}
use Rattle.listing.proofs.Writing.{then_lem}
use Rattle.listing.proofs.put_line.Goals as goal

pub put-requires-3 : goal.put-requires-3
put-requires-3 c = omega (arith, line_length c.args.r.index c.args.r.kind c.args.rec.now)

pub returns : goal.returns
unfolding line_of
returns c =
    let two = then_lem c.put_decimal.ensures c.put.ensures in
    let three = then_lem two c.put_kind.ensures in
    let four = then_lem three c.put-2.ensures in
    let five = then_lem four c.put_name.ensures in
    then_lem five c.put-3.ensures
