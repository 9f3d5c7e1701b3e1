-- `walk::walk` meets its contract. The loop's invariant: the walk from the start ends as the walk from here does.
use Rattle.std.proofs.Common.{rules}
use Rattle.chain.proofs.Goings.{at_record}
use Rattle.walk.proofs.Walks.{at_end, at_refused, going_stay, going_push, going_pop, at_found, at_refusing}
use Rattle.walk.proofs.walk.Goals as goal

pub returns-in_err-step : goal.returns-in_err-step
returns-in_err-step c = search (rules, at_refused _ c.loop-r.invariant c.in_err-step.ensures)

pub returns-in-End : goal.returns-in-End
returns-in-End c = at_end _ c.loop-r.invariant c.in_ok-step.ensures c.in-End.is

pub returns-in_err-turn_at-in-Record : goal.returns-in_err-turn_at-in-Record
returns-in_err-turn_at-in-Record c =
    search (rules, at_refusing _ (at_record c.loop-r.invariant c.in_ok-step.ensures c.in-Record.is) c.len.ensures c.in_err-turn_at-in-Record.ensures)

pub loop-r-preserved-in-Stay : goal.loop-r-preserved-in-Stay
loop-r-preserved-in-Stay c =
    going_stay _ (at_record c.loop-r.invariant c.in_ok-step.ensures c.in-Record.is) c.len.ensures c.in_ok-turn_at-in-Record.ensures c.in-Stay.is

pub loop-r-preserved-in-Push : goal.loop-r-preserved-in-Push
loop-r-preserved-in-Push c =
    going_push _ (at_record c.loop-r.invariant c.in_ok-step.ensures c.in-Record.is) c.len.ensures c.in_ok-turn_at-in-Record.ensures c.in-Push.is c.push.ensures

pub loop-r-preserved : goal.loop-r-preserved
loop-r-preserved c =
    going_pop _ (at_record c.loop-r.invariant c.in_ok-step.ensures c.in-Record.is) c.len.ensures c.in_ok-turn_at-in-Record.ensures c.in-Pop.is _ c.pop.ensures

pub returns-in-Found : goal.returns-in-Found
returns-in-Found c =
    at_found _ (at_record c.loop-r.invariant c.in_ok-step.ensures c.in-Record.is) c.len.ensures c.in_ok-turn_at-in-Record.ensures c.in-Found.is
