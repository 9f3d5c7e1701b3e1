-- `listing::put_refused` meets its contract.
use Rattle.listing.specs.Listing.{refused_line}
use Rattle.listing.proofs.Writing.{then_lem}
use Rattle.listing.proofs.put_refused.Goals as goal

pub returns : goal.returns
unfolding refused_line
returns c =
    let two = then_lem c.put.ensures c.put_decimal.ensures in
    let three = then_lem two c.put-2.ensures in
    let four = then_lem three c.put_decimal-2.ensures in
    rw (← c.number.ensures, ← c.position.ensures) (then_lem four c.put-3.ensures)
