-- The climb from the first opener is that from here; the measure is the room that the chain has left.
use Rattle.std.proofs.Common.{◌-◌, length}
use Rattle.climb.proofs.Climbs.{Climbing}
use Rattle.climb.proofs.climb_from.Given as goal

abbrev pub invariant-loop-parent : goal.invariant-loop-parent
invariant-loop-parent l = Climbing l.s l.i l.first l.chain l.index l.parent

abbrev pub decreases-loop-parent : goal.decreases-loop-parent
decreases-loop-parent l = 64 - length l.chain
