-- `climb::climb_from` meets its contract. The loop's invariant: the climb from the opener ends as the climb from here does.
use Rattle.std.proofs.Common.{arith}
use Rattle.climb.proofs.Climbs.{at_above, at_missing, going_up}
use Rattle.climb.proofs.climb_from.Goals as goal

pub returns-then-index-parent : goal.returns-then-index-parent
returns-then-index-parent c = at_above c.loop-parent.invariant c.len.ensures c.loop-parent-test.true (omega arith) (omega arith)

pub returns-in_default : goal.returns-in_default
returns-in_default c = at_missing c.loop-parent.invariant c.len.ensures c.loop-parent-test.true (omega arith) (omega arith) c.opener_at.ensures c.in_default.is

pub loop-parent-preserved : goal.loop-parent-preserved
loop-parent-preserved c = going_up c.loop-parent.invariant c.len.ensures c.loop-parent-test.true (omega arith) (omega arith) c.opener_at.ensures c.in-Ok.is c.push.ensures
