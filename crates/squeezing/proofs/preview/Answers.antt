-- `squeezing::preview` meets its contract.
use Rattle.std.proofs.Common.{rules, sym, subst}
use Rattle.squeezing.specs.Foretells.{Foretells}
use Rattle.squeezing.proofs.Planned.{preview_refused, nothing_there, gains}
use Rattle.squeezing.proofs.Foretold.{preview_foretells}
use Rattle.squeezing.proofs.preview.Goals as goal

pub returns-in_err-first-clause-value : goal.returns-in_err-first-clause-value
returns-in_err-first-clause-value c = search (rules, preview_refused _ _ c.in_err-first.ensures c.args.i)

pub returns-in_err-first-clause-foretells : goal.returns-in_err-first-clause-foretells
returns-in_err-first-clause-foretells c = subst (Foretells _ _ _) (sym (returns-in_err-first-clause-value c)) (preview_foretells _ _ _)

pub returns-in-None-clause-value : goal.returns-in-None-clause-value
returns-in-None-clause-value c = nothing_there _ _ c.in_ok-first.ensures _ (rw c.first.ensures at c.in-None.ensures)

pub returns-in-None-clause-foretells : goal.returns-in-None-clause-foretells
returns-in-None-clause-foretells c = subst (Foretells _ _ _) (sym (returns-in-None-clause-value c)) (preview_foretells _ _ _)

pub returns-in-Some-clause-value : goal.returns-in-Some-clause-value
returns-in-Some-clause-value c = gains _ _ c.in_ok-first.ensures _ (rw c.first.ensures at c.in-Some.ensures)

pub returns-in-Some-clause-foretells : goal.returns-in-Some-clause-foretells
returns-in-Some-clause-foretells c = subst (Foretells _ _ _) (sym (returns-in-Some-clause-value c)) (preview_foretells _ _ _)
