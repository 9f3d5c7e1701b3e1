-- Laws of the climb finder: what a turn of its loop does to the climb that is left.
-- Assumes nothing.
use Rattle.std.proofs.Common.{ℕ, zero, suc, ◌+◌, ◌-◌, ◌≤◌, ◌<◌, ◌≡◌, sym, ap, ◌∙◌, arith, length-append, List, [], ◌∷◌, ◌++◌, length, reverse, Result, Ok, Err}
use Rattle.std.proofs.lemmas.Grind.{common_steps}
use Rattle.std.proofs.lemmas.List.{reverse-append, reverse-reverse, length-reverse}
use Rattle.common.specs.declared.Refusal.{Refusal}
use Rattle.common.specs.declared.Refusal.TheVariants.{TooDeep, UnusableLink}
use Rattle.climb.specs.Opener.{opener_of}
use Rattle.climb.specs.Climb.{reached_by, on_parent, climb_on}

-- a turn of the climb: at the top, with no room for a link, at a parent that is not below, and at one below
module _ (s : List ℕ) (index parent : ℕ) (st : List ℕ) where
  pub climb_top : (room : ℕ) → parent ≡ 0 → climb_on room s index parent st ≡ reached_by st
  unfolding climb_on
  climb_top zero e = grind (arith, common_steps)
  climb_top (suc room) e = grind (arith, common_steps)

  pub climb_full : ¬ (parent ≡ 0) → climb_on 0 s index parent st ≡ Err (TooDeep 0)
  unfolding climb_on
  climb_full z = grind (arith, common_steps)

  pub climb_above : (room : ℕ) → ¬ (parent ≡ 0) → index ≤ parent → climb_on (suc room) s index parent st ≡ Err UnusableLink
  unfolding climb_on
  climb_above room z h = grind (arith, common_steps)

  pub climb_below : (room : ℕ) {o : Result ℕ Refusal} → ¬ (parent ≡ 0) → parent < index → o ≡ opener_of s parent →
      climb_on (suc room) s index parent st ≡ on_parent o (λ next. climb_on room s parent next (parent ∷ st))
  unfolding climb_on
  climb_below room z h e = grind (arith, common_steps)

-- The loop's invariant: the climb from the opener ends as the climb from here does, with the links that the chain lists.
pub record Climbing (s : List ℕ) (i first : ℕ) (chain : List ℕ) (index parent : ℕ) : Type 0 where
  pub most : length chain ≤ 64
  pub same : climb_on 64 s i first [] ≡ climb_on (64 - length chain) s index parent (reverse chain)

module _ {s : List ℕ} {i first : ℕ} {chain : List ℕ} {index parent : ℕ} (g : Climbing s i first chain index parent) {d : ℕ} (ed : d ≡ length chain) where
  pub at_top : parent ≡ 0 → Ok (record { chain = chain; count = d }) ≡ climb_on 64 s i first []
  at_top e = sym (g.same ∙ climb_top s index parent (reverse chain) (64 - length chain) e ∙ rw (reverse-reverse chain, length-reverse chain, ed))

  module _ (z : ¬ (parent ≡ 0)) where
    pub at_full : 64 ≤ d → Err (TooDeep 0) ≡ climb_on 64 s i first []
    at_full h =
        let none : 64 - length chain ≡ 0 = omega arith in
        sym (g.same ∙ rw none (climb_full s index parent (reverse chain) z))

    -- with room for one more link
    module _ (h : d < 64) where
      left : climb_on 64 s i first [] ≡ climb_on (suc (63 - d)) s index parent (reverse chain)
      left =
          let one : 64 - length chain ≡ suc (63 - d) = omega arith in
          g.same ∙ ap (λ (n : ℕ). climb_on n s index parent (reverse chain)) one

      pub at_above : index ≤ parent → Err UnusableLink ≡ climb_on 64 s i first []
      at_above l = sym (left ∙ climb_above s index parent (reverse chain) (63 - d) z l)

      module _ (l : parent < index) {o : Result ℕ Refusal} (eo : o ≡ opener_of s parent) where
        pub at_missing : {e : Refusal} → o ≡ Err e → Err UnusableLink ≡ climb_on 64 s i first []
        at_missing f = sym (left ∙ climb_below s index parent (reverse chain) (63 - d) z l (sym f ∙ eo))

        pub going_up : {next : ℕ} → o ≡ Ok next → {ch : List ℕ} → ch ≡ chain ++ parent ∷ [] → Climbing s i first ch parent next
        going_up {next} f {ch} c =
            let long : length ch ≡ length chain + 1 = simp (c, length-append) in
            let room : 63 - d ≡ 64 - length ch = omega arith in
            record {
              most = omega arith;
              same = left ∙ climb_below s index parent (reverse chain) (63 - d) z l (sym f ∙ eo) ∙ rw (room, c, reverse-append chain (parent ∷ []));
            }
