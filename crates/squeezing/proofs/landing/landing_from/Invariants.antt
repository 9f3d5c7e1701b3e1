-- The measure is what is left of the stream.
use Rattle.std.proofs.Common.{◌-◌, length}
use Rattle.squeezing.proofs.Landings.{Seeking}
use Rattle.squeezing.proofs.landing.landing_from.Given as goal

abbrev pub invariant-loop-r : goal.invariant-loop-r
invariant-loop-r l = Seeking l.s l.fn.from l.i l.here

abbrev pub decreases-loop-r : goal.decreases-loop-r
decreases-loop-r l = length l.s - l.here.at
