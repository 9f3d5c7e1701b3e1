-- `squeezing::landing::landing_from` meets its contract.
use Rattle.std.proofs.Common.{ap, ◌∙◌, refl, arith, Ok}
use Rattle.iter.proofs.Reading.{step_is, step_fits}
use Rattle.squeezing.proofs.Landings.{at_end, at_refused, behind_fits, at_found, at_past, goes_on}
use Rattle.squeezing.proofs.landing.landing_from.Goals as goal

pub loop-r-init : goal.loop-r-init
loop-r-init c = record { low = c.requires; lands = refl }

pub returns-then-r-i : goal.returns-then-r-i
returns-then-r-i c = at_found c.loop-r.invariant (step_is _ _ c.step.ensures (c.in-Ok-Record.is ∙ ap Ok c.in-Ok-Record.field-0-is)) c.if-r-i.true

pub returns-then-i-r : goal.returns-then-i-r
returns-then-i-r c = at_past c.loop-r.invariant (step_is _ _ c.step.ensures (c.in-Ok-Record.is ∙ ap Ok c.in-Ok-Record.field-0-is)) c.if-i-r.true

pub behind-here-requires : goal.behind-here-requires
behind-here-requires c = behind_fits _ _ c.loop-r.invariant.low (step_is _ _ c.step.ensures (c.in-Ok-Record.is ∙ ap Ok c.in-Ok-Record.field-0-is))

pub loop-r-smaller : goal.loop-r-smaller
loop-r-smaller c =
    rw c.behind-here.ensures
    (omega (arith, step_fits _ _ _ (step_is _ _ c.step.ensures (c.in-Ok-Record.is ∙ ap Ok c.in-Ok-Record.field-0-is))))

pub loop-r-preserved : goal.loop-r-preserved
loop-r-preserved c =
    rw c.behind-here.ensures
    (goes_on c.loop-r.invariant (step_is _ _ c.step.ensures (c.in-Ok-Record.is ∙ ap Ok c.in-Ok-Record.field-0-is)) c.if-r-i.false)

pub returns-in-Ok-End : goal.returns-in-Ok-End
returns-in-Ok-End c = at_end c.loop-r.invariant (step_is _ _ c.step.ensures (c.in-Ok-End.is ∙ ap Ok c.in-Ok-End.field-0-is))

pub returns-in-Err : goal.returns-in-Err
returns-in-Err c = at_refused c.loop-r.invariant (step_is _ _ c.step.ensures c.in-Err.is)
