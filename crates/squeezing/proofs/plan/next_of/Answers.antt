-- `squeezing::plan::next_of` meets its contract.
use Rattle.std.proofs.Common.{refl, sym, ◌∙◌}
use Rattle.squeezing.proofs.Plans.{next_there, next_stands, next_of_other}
use Rattle.squeezing.proofs.plan.next_of.Goals as goal

pub next_in-requires : goal.next_in-requires
next_in-requires c = next_there _ _ c.requires.kind c.requires.readable (sym c.in-Opens.ensures)

pub returns-in-Opens : goal.returns-in-Opens
returns-in-Opens c = c.next_in.ensures ∙ next_stands _ c.requires.kind c.requires.readable (sym c.in-Opens.ensures)

pub returns-in-Closes : goal.returns-in-Closes
returns-in-Closes c = next_of_other _ c.requires.kind c.in-Closes.ensures refl

pub returns-in-Neither : goal.returns-in-Neither
returns-in-Neither c = next_of_other _ c.requires.kind c.in-Neither.ensures refl
