-- The search from the start is that from here; the measure is what is left of the stream.
use Rattle.std.proofs.Common.{◌-◌, length}
use Rattle.jump.proofs.Jumps.{Jumping}
use Rattle.jump.proofs.jump.Given as goal

abbrev pub invariant-loop-r : goal.invariant-loop-r
invariant-loop-r l = Jumping l.s l.start l.i l.chain l.at l.read

abbrev pub decreases-loop-r : goal.decreases-loop-r
decreases-loop-r l = length l.s - l.at
