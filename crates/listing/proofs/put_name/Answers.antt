-- `listing::put_name` meets its contract.
use Rattle.listing.proofs.Writing.{then_lem}
use Rattle.listing.proofs.put_name.Goals as goal

pub returns-in-Err : goal.returns-in-Err
returns-in-Err c = rw (← c.in-Err.ensures, ← c.number.ensures) (then_lem c.put-in-Err.ensures c.put_decimal.ensures)
