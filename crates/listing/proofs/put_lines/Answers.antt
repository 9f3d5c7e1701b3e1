-- `listing::put_lines` meets its contract.
use Rattle.std.proofs.Common.{arith}
use Rattle.std.proofs.lemmas.Result.{err_from_is_err_and}
use Rattle.iter.proofs.Steps.{next_within}
use Rattle.listing.proofs.Listings.{begins, at_end, at_refusal, line_room, after_line}
use Rattle.listing.proofs.put_lines.Goals as goal

pub loop-r-init : goal.loop-r-init
loop-r-init c = begins _ _ c.requires.empty

pub returns-in_err-step-clause-lines : goal.returns-in_err-step-clause-lines
returns-in_err-step-clause-lines c = (at_refusal c.loop-r.invariant c.in_err-step.ensures).0

pub returns-in_err-step-clause-ending : goal.returns-in_err-step-clause-ending
returns-in_err-step-clause-ending c =
    let p = err_from_is_err_and c.from_residual.result c.from_residual.ensures.1 in
    rw (p.1, p.2) (at_refusal c.loop-r.invariant c.in_err-step.ensures).1

pub returns-in-End-clause-lines : goal.returns-in-End-clause-lines
returns-in-End-clause-lines c = (at_end c.loop-r.invariant c.in_ok-step.ensures c.in-End.is).0

pub returns-in-End-clause-ending : goal.returns-in-End-clause-ending
returns-in-End-clause-ending c = (at_end c.loop-r.invariant c.in_ok-step.ensures c.in-End.is).1

pub put_line-requires : goal.put_line-requires
put_line-requires c =
    let l = c.loop-r in
    omega (arith, line_room l.invariant c.in_ok-step.ensures c.in-Record.is, next_within _ _ c.in_ok-step.ensures c.in-Record.is)

pub loop-r-preserved : goal.loop-r-preserved
loop-r-preserved c = after_line c.loop-r.invariant c.in_ok-step.ensures c.in-Record.is c.requires.listed c.put_line.ensures
