-- The verdict and the counts from the start are those from here; the measure is what is left of the stream.
use Rattle.std.proofs.Common.{◌-◌, length}
use Rattle.check_nesting.proofs.Checks.{Checking}
use Rattle.check_nesting.proofs.check.Given as goal

abbrev pub invariant-loop-stack : goal.invariant-loop-stack
invariant-loop-stack l = Checking l.s l.start l.stack.items l.n l.at

abbrev pub decreases-loop-stack : goal.decreases-loop-stack
decreases-loop-stack l = length l.s - l.at
