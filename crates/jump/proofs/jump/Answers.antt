-- `jump::jump` meets its contract. The loop's invariant: the search from the start ends as the search from here does.
use Rattle.std.proofs.Common.{rules, arith}
use Rattle.chain.proofs.Goings.{at_record}
use Rattle.jump.proofs.Jumps.{at_end, at_refused, going_stay, going_push, over, going_over, at_miss, at_found, at_refusing}
use Rattle.jump.proofs.jump.Goals as goal

pub returns-in_err-step : goal.returns-in_err-step
returns-in_err-step c = search (rules, at_refused _ c.loop-r.invariant c.in_err-step.ensures)

pub returns-in-End : goal.returns-in-End
returns-in-End c = at_end _ c.loop-r.invariant c.in_ok-step.ensures c.in-End.is

pub returns-in_err-hop_at-in-Record : goal.returns-in_err-hop_at-in-Record
returns-in_err-hop_at-in-Record c =
    search (rules, at_refusing _ (at_record c.loop-r.invariant c.in_ok-step.ensures c.in-Record.is) c.len.ensures c.in_err-hop_at-in-Record.ensures)

pub loop-r-preserved-in-Stay : goal.loop-r-preserved-in-Stay
loop-r-preserved-in-Stay c = going_stay _ (at_record c.loop-r.invariant c.in_ok-step.ensures c.in-Record.is) c.len.ensures c.in_ok-hop_at-in-Record.ensures c.in-Stay.is

pub loop-r-preserved-in-Push : goal.loop-r-preserved-in-Push
loop-r-preserved-in-Push c = going_push _ (at_record c.loop-r.invariant c.in_ok-step.ensures c.in-Record.is) c.len.ensures c.in_ok-hop_at-in-Record.ensures c.in-Push.is c.push.ensures

pub returns-in_err-at-in-Over : goal.returns-in_err-at-in-Over
returns-in_err-at-in-Over c =
    search (rules, at_miss _ (at_record c.loop-r.invariant c.in_ok-step.ensures c.in-Record.is) c.len.ensures c.in_ok-hop_at-in-Record.ensures c.in-Over.is c.in_err-at-in-Over.ensures)

pub loop-r-smaller : goal.loop-r-smaller
loop-r-smaller c =
    let y = at_record c.loop-r.invariant c.in_ok-step.ensures c.in-Record.is in
    omega (arith, over _ y c.len.ensures c.in_ok-hop_at-in-Record.ensures c.in-Over.is c.in_ok-at-in-Over.ensures)

pub loop-r-preserved : goal.loop-r-preserved
loop-r-preserved c = going_over _ (at_record c.loop-r.invariant c.in_ok-step.ensures c.in-Record.is) c.len.ensures c.in_ok-hop_at-in-Record.ensures c.in-Over.is c.in_ok-at-in-Over.ensures

pub returns-in-Found : goal.returns-in-Found
returns-in-Found c = at_found _ (at_record c.loop-r.invariant c.in_ok-step.ensures c.in-Record.is) c.len.ensures c.in_ok-hop_at-in-Record.ensures c.in-Found.is
