-- `listing::text::Text::put_kind` meets its contract.
use Rattle.std.proofs.Common.{arith}
use Rattle.listing.proofs.Numbers.{four_digits}
use Rattle.listing.proofs.text.Text.put_kind.Goals as goal

pub put-requires : goal.put-requires
put-requires c = omega (arith, four_digits c.hex-k.ensures.len (omega arith), c.hex-k.ensures.in_bounds)

pub returns : goal.returns
returns c = rw (c.hex-k.ensures.digits, four_digits c.hex-k.ensures.len (omega arith)) at c.put.ensures
