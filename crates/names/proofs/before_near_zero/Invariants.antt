-- The bytes that were looked at stand before the first zero.
use Rattle.std.proofs.Common.{◌≡◌, ◌+◌, drop}
use Rattle.names.specs.Name.{run}
use Rattle.names.proofs.before_near_zero.Given as goal

abbrev pub invariant-loop-n : goal.invariant-loop-n
invariant-loop-n l = run l.s ≡ l.n + run (drop l.n l.s)
