-- `squeezing::landing::landing_of` meets its contract.
use Rattle.std.proofs.Common.{sym, subst, ◌∙◌}
use Rattle.squeezing.specs.Landing.{Lands}
use Rattle.squeezing.proofs.Landings.{found_lands, first_lands}
use Rattle.squeezing.proofs.landing.landing_of.Goals as goal
use Rattle.squeezing.proofs.landing.landing_of.Goals.{then-known-i, else-known-i}

pub returns-clause-known : goal.returns-clause-known
returns-clause-known c =
    let from : Lands c.args.s.now c.args.first c.if-known-i.from =
    elim c.if-known-i.branch [ then-known-i w ↦ subst (Lands _ _) (sym w.from-is) c.requires | else-known-i w ↦ subst (Lands _ _) (sym (w.from-is ∙ w.first-from.ensures)) (first_lands _ _) ] in
    found_lands _ _ _ _ _ from (sym c.landing_from.ensures ∙ c.in_ok-to.was)
