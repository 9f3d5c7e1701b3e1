-- `reply::put_found` meets its contract.
use Rattle.std.proofs.Common.{arith}
use Rattle.reply.proofs.Stores.{place_more}
use Rattle.reply.proofs.put_found.Goals as goal

pub loop-k-preserved : goal.loop-k-preserved
loop-k-preserved c = rw (c.loop-k.invariant, ← c.places-place-items.ensures) (place_more _ _ _ _ _ (omega arith) (omega arith))
