-- The measure is what is left of the stream.
use Rattle.std.proofs.Common.{◌-◌, length}
use Rattle.squeezing.proofs.Plans.{Planning}
use Rattle.squeezing.proofs.plan.squeezed_length.Given as goal

abbrev pub invariant-loop-r : goal.invariant-loop-r
invariant-loop-r l = Planning l.s l.first l.here l.known

abbrev pub decreases-loop-r : goal.decreases-loop-r
decreases-loop-r l = length l.s - l.here.at
