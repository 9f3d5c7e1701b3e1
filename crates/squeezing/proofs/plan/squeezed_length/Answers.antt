-- `squeezing::plan::squeezed_length` meets its contract.
use Rattle.std.proofs.Common.{sym, subst, ap, ◌∙◌, Ok}
use Rattle.iter.proofs.Reading.{step_is}
use Rattle.iter.proofs.Steps.{record_of, lent_bytes}
use Rattle.squeezing.specs.Squeeze.{record_links, next_by}
use Rattle.squeezing.specs.Plan.{Readable}
use Rattle.squeezing.proofs.Landings.{behind_fits}
use Rattle.squeezing.proofs.Plans.{planning_first, at_end, at_refused, readable_here, at_wrong, goes_on}
use Rattle.squeezing.proofs.plan.squeezed_length.Goals as goal

pub loop-r-init : goal.loop-r-init
loop-r-init c = rw c.first-here.ensures (planning_first _ _ c.requires)

pub returns-in-Err : goal.returns-in-Err
returns-in-Err c = at_refused c.loop-r.invariant (step_is _ _ c.step.ensures c.in-Err.is)

pub returns-in-Ok-End : goal.returns-in-Ok-End
returns-in-Ok-End c = at_end c.loop-r.invariant (step_is _ _ c.step.ensures (c.in-Ok-End.is ∙ ap Ok c.in-Ok-End.field-0-is))

pub next_of-next-requires-clause-readable : goal.next_of-next-requires-clause-readable
next_of-next-requires-clause-readable c =
    subst Readable (sym (lent_bytes _ _ c.in-Ok-Record.ensures c.in-Ok-Record.field-0-is)) (readable_here c.loop-r.invariant (record_of _ _ c.in-Ok-Record.ensures c.in-Ok-Record.field-0-is))

pub returns-then-not-is_named : goal.returns-then-not-is_named
returns-then-not-is_named c =
    let it = record_of _ _ c.in-Ok-Record.ensures c.in-Ok-Record.field-0-is in
    at_wrong c.loop-r.invariant it (c.next_of-next.ensures ∙ ap (λ b. next_by (record_links b)) (lent_bytes _ _ c.in-Ok-Record.ensures c.in-Ok-Record.field-0-is)) (sym c.if-not-is_named.ensures.named)

pub behind-here-requires : goal.behind-here-requires
behind-here-requires c = behind_fits _ _ c.loop-r.invariant.here_lands (record_of _ _ c.in-Ok-Record.ensures c.in-Ok-Record.field-0-is)

pub loop-r-preserved : goal.loop-r-preserved
loop-r-preserved c =
    let it = record_of _ _ c.in-Ok-Record.ensures c.in-Ok-Record.field-0-is in
    rw c.behind-here.ensures (goes_on c.loop-r.invariant it (c.next_of-next.ensures ∙ ap (λ b. next_by (record_links b)) (lent_bytes _ _ c.in-Ok-Record.ensures c.in-Ok-Record.field-0-is)) (sym c.if-not-is_named.ensures.named) c.is_named.ensures.known)
