-- The measure is what is left of the stream.
use Rattle.std.proofs.Common.{◌-◌, length}
use Rattle.squeezing.proofs.Writes.{Writing}
use Rattle.squeezing.proofs.write.Given as goal

abbrev pub invariant-loop-r : goal.invariant-loop-r
invariant-loop-r l = Writing l.s l.first l.fn.buffer l.buffer l.openers.items l.here l.known

abbrev pub decreases-loop-r : goal.decreases-loop-r
decreases-loop-r l = length l.s - l.here.at
