-- The check passes exactly where reading ends at End and its records nest.
-- Assumes nothing.
use Rattle.std.proofs.Common.{ℕ, ◌<◌, ◌≡◌, refl, sym, ap, ◌∙◌, arith, List, [], ◌∷◌, Option, None, Some, Result, Ok, Err}
use Rattle.std.proofs.lemmas.Grind.{common_steps}
use mathlib.Core.List.{tail}
use Rattle.common.specs.declared.Refusal.{Refusal}
use Rattle.iter.specs.Reading.{Rec, Ending, ends, refuses, read_of}
use Rattle.links.specs.Links.{links_of}
use Rattle.links.specs.declared.Links.{Links}
use Rattle.check_nesting.specs.declared.act.Open.{Open}
use Rattle.check_nesting.specs.declared.act.Act.{Act}
use Rattle.check_nesting.specs.declared.act.Act.TheVariants as A
use Rattle.check_nesting.specs.declared.Counts.{Counts}
use Rattle.check_nesting.specs.Stack.{open_scope, inner_index}
use Rattle.check_nesting.specs.Act.{act_of}
use Rattle.check_nesting.specs.Check.{Verdict, on_act, on_end, verdict_on, verdict_from, counts_of, answer_by, check_of}
use Rattle.check_nesting.specs.Nesting.{Nests, done, passes, opens, closes, NestsIn}
use Rattle.check_nesting.proofs.Acts.{stay_role, push_role, push_room, pop_role, pop_some}

-- what is known of an opener that is pushed
pub record Opening (r : Rec) (st : List Open) (o : Open) (l : Links) : Type 0 where
  pub above : 0 < r.index
  pub parent : l.parent ≡ inner_index st
  pub is : open_scope r.index l ≡ o

module _ (r : Rec) (st : List Open) {o : Open} (e : Ok (A.Push o) ≡ act_of r st) where
  unread : links_of r.bytes ≡ None → ⊥
  unfolding act_of
  unread g = grind (arith, common_steps, push_role r st e)

  opening : (l : Links) → links_of r.bytes ≡ Some l → Opening r st o l
  unfolding act_of
  opening l g = grind (arith, common_steps, push_role r st e)

closing : (r : Rec) (o : Open) (st : List Open) → Ok A.Pop ≡ act_of r (o ∷ st) → o.end ≡ r.index
unfolding act_of
closing r o st e = grind (arith, common_steps, pop_role r (o ∷ st) e)

module _ (ending : Ending) where
  at_last : (st : List Open) → (e : Ending) → ending ≡ e → on_end e st ≡ Ok tt → NestsIn ending [] st
  at_last st (refuses x) q h = cc
  at_last [] ends q h = record { at_end = q; nests = done }
  at_last (o ∷ st) ends q h = cc

  module _ (r : Rec) (rs : List Rec) (ih : (st : List Open) → verdict_on ending rs st ≡ Ok tt → NestsIn ending rs st) where
    at_opener : (st : List Open) {o : Open} → Ok (A.Push o) ≡ act_of r st → verdict_on ending rs (o ∷ st) ≡ Ok tt → (l : Option Links) → links_of r.bytes ≡ l → NestsIn ending (r ∷ rs) st
    at_opener st e h None g = absurd (unread r st e g)
    at_opener st {o} e h (Some l) g =
        let k = ih (o ∷ st) h in
        let p = opening r st e l g in
        record { at_end = k.at_end; nests = opens {l = l} (push_role r st e) g p.above (omega arith) (omega (arith, push_room r st e)) (rw p.is k.nests) }

    at_closer : (st : List Open) → Ok A.Pop ≡ act_of r st → verdict_on ending rs (tail st) ≡ Ok tt → NestsIn ending (r ∷ rs) st
    at_closer [] e h = absurd (omega (arith, pop_some r [] e))
    at_closer (o ∷ st) e h = let k = ih st h in record { at_end = k.at_end; nests = closes (pop_role r (o ∷ st) e) (closing r o st e) k.nests }

    at_act : (st : List Open) (a : Result Act Refusal) → a ≡ act_of r st → on_act st a (verdict_on ending rs) ≡ Ok tt → NestsIn ending (r ∷ rs) st
    at_act st (Ok A.Stay) e h = let k = ih st h in record { at_end = k.at_end; nests = passes (stay_role r st e) k.nests }
    at_act st (Ok (A.Push o)) e h = at_opener st e h (links_of r.bytes) refl
    at_act st (Ok A.Pop) e h = at_closer st e h
    at_act st (Err x) e h = cc

pub passes_nests : (ending : Ending) (rs : List Rec) (st : List Open) → verdict_on ending rs st ≡ Ok tt → NestsIn ending rs st
unfolding verdict_on
passes_nests ending [] st h = at_last ending st ending refl h
passes_nests ending (r ∷ rs) st h = at_act ending r rs (passes_nests ending rs) st (act_of r st) refl h

pub nests_passes : {rs : List Rec} {st : List Open} → Nests rs st → verdict_on ends rs st ≡ Ok tt
unfolding verdict_on act_of
nests_passes done = refl
nests_passes (passes o d) = let p = nests_passes d in rw o p
nests_passes (opens o g z t m d) = let p = nests_passes d in rw (o, g) (grind (arith, common_steps, p))
nests_passes (closes o t d) = let p = nests_passes d in rw o (grind (arith, common_steps, p))

-- the same of the check
pub good_nests : (s : List ℕ) (start : ℕ) {n : Counts} → check_of s start ≡ Ok n → NestsIn (read_of s start).last.ending (read_of s start).recs []
unfolding check_of verdict_from
good_nests s start {n} = by (verdict_from (read_of s start) []) refl
  where
    by : (v : Verdict) → verdict_from (read_of s start) [] ≡ v → answer_by v (counts_of (read_of s start)) ≡ Ok n → NestsIn (read_of s start).last.ending (read_of s start).recs []
    by (Ok u) e q = passes_nests (read_of s start).last.ending (read_of s start).recs [] e
    by (Err x) e q = cc

pub nests_good : (s : List ℕ) (start : ℕ) → NestsIn (read_of s start).last.ending (read_of s start).recs [] → check_of s start ≡ Ok (counts_of (read_of s start))
unfolding check_of verdict_from
nests_good s start k =
    ap (λ (v : Verdict). answer_by v (counts_of (read_of s start)))
    (ap (λ (x : Ending). verdict_on x (read_of s start).recs []) k.at_end ∙ nests_passes k.nests)

-- what the check answers are the counts
pub counts_are : (s : List ℕ) (start : ℕ) {n : Counts} → check_of s start ≡ Ok n → n ≡ counts_of (read_of s start)
counts_are s start {n} q = let e : ◌≡◌ {A = Result Counts Refusal} (Ok n) (Ok (counts_of (read_of s start))) = sym q ∙ nests_good s start (good_nests s start q) in cc
