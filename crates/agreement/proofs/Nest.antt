-- What nesting says of a stream's steps: each position from which records nest, by the step made there.
-- Assumes nothing.
use Rattle.std.proofs.Common.{ℕ, suc, ◌≤◌, ◌<◌, ◌≡◌, refl, sym, ap, ◌∙◌, subst, List, [], ◌∷◌, length, Some, Result, Ok, Err}
use Rattle.common.specs.declared.Refusal.{Refusal}
use Rattle.constants.specs.declared.Role.TheVariants.{Neither, Opens, Closes}
use Rattle.constants.specs.Raw.{nesting_role_of}
use Rattle.iter.specs.Step.{scan_of}
use Rattle.iter.specs.Reading.{bytes_at, rec_at, ends, refuses, Reading, read_of}
use Rattle.iter.specs.declared.Next.{Next}
use Rattle.iter.specs.declared.Record.{Record}
use Rattle.iter.specs.declared.Next.TheVariants as N
use Rattle.common.proofs.Later.{later-ind}
use Rattle.iter.proofs.Reading.{read_by}
use Rattle.links.specs.Links.{links_of}
use Rattle.links.specs.declared.Links.{Links}
use Rattle.check_nesting.specs.declared.act.Open.{Open}
use Rattle.check_nesting.specs.Stack.{open_scope, inner_index}
use Rattle.check_nesting.specs.Nesting as R
use Rattle.check_nesting.specs.Nesting.{Nests, NestsIn}

-- the indexes of a stack
abbrev pub indexes : List Open → List ℕ
indexes [] = []
indexes (o ∷ st) = o.index ∷ indexes st

pub length_indexes : (st : List Open) → length (indexes st) ≡ length st
length_indexes [] = refl
length_indexes (o ∷ st) = ap suc (length_indexes st)

-- the records from a position on nest in the stack
abbrev pub NestsAt : List ℕ → ℕ → List Open → Type 0
NestsAt s p st = NestsIn (read_of s p).last.ending (read_of s p).recs st

-- such a position, by its step
pub data First (s : List ℕ) : ℕ → List Open → Type 0 where
  done : {p q : ℕ} → (scan_of s p).step ≡ Ok (N.End q) → First s p []
  passes : {p : ℕ} {it : Record} {st : List Open} → (scan_of s p).step ≡ Ok (N.Record it) →
      nesting_role_of (bytes_at s it) ≡ Neither → NestsAt s it.next st → First s p st
  opens : {p : ℕ} {it : Record} {l : Links} {st : List Open} → (scan_of s p).step ≡ Ok (N.Record it) →
      nesting_role_of (bytes_at s it) ≡ Opens → links_of (bytes_at s it) ≡ Some l →
      0 < it.index → l.parent ≡ inner_index st → length st < 64 → NestsAt s it.next (open_scope it.index l ∷ st) → First s p st
  closes : {p : ℕ} {it : Record} {o : Open} {st : List Open} → (scan_of s p).step ≡ Ok (N.Record it) →
      nesting_role_of (bytes_at s it) ≡ Closes → o.end ≡ it.index → NestsAt s it.next st → First s p (o ∷ st)

module _ (s : List ℕ) (p : ℕ) where
  -- at End nothing is open
  at_end : {q : ℕ} {st : List Open} → (scan_of s p).step ≡ Ok (N.End q) → NestsAt s p st → First s p st
  at_end {q} {st} h k = by (subst (λ (r : Reading). Nests r.recs st) (read_by s p (Ok (N.End q)) h) k.nests)
    where
      by : {gs : List Open} → Nests [] gs → First s p gs
      by R.done = done h

  at_record : {it : Record} {st : List Open} → (scan_of s p).step ≡ Ok (N.Record it) → NestsAt s p st → First s p st
  at_record {it} {st} h k =
      by (subst (λ (r : Reading). Nests r.recs st) (read_by s p (Ok (N.Record it)) h) k.nests)
    where
      last : (read_of s it.next).last.ending ≡ ends
      last = ap (λ (r : Reading). r.last.ending) (sym (read_by s p (Ok (N.Record it)) h)) ∙ k.at_end

      by : {gs : List Open} → Nests (rec_at s (scan_of s p) it ∷ (read_of s it.next).recs) gs → First s p gs
      by (R.passes o d) = passes h o (record { at_end = last; nests = d })
      by (R.opens o g z t m d) = opens h o g z t m (record { at_end = last; nests = d })
      by (R.closes o t d) = closes h o t (record { at_end = last; nests = d })

  first : {st : List Open} → NestsAt s p st → First s p st
  first {st} k = by (scan_of s p).step refl
    where
      by : (n : Result Next Refusal) → (scan_of s p).step ≡ n → First s p st
      by (Ok (N.End q)) h = at_end h k
      by (Ok (N.Record it)) h = at_record h k
      by (Err e) h =
          let q : refuses e ≡ ends = ap (λ (r : Reading). r.last.ending) (sym (read_by s p (Err e) h)) ∙ k.at_end in
          cc

-- what is shown of every such position, where it is known of the later ones
pub nests-ind :
    (s : List ℕ) (P : ℕ → List Open → Type 0) →
    ((p : ℕ) (st : List Open) → First s p st → ((q : ℕ) (gs : List Open) → p < q → q ≤ length s → NestsAt s q gs → P q gs) → P p st) →
    (p : ℕ) (st : List Open) → NestsAt s p st → P p st
nests-ind s P step = later-ind (length s) (λ p. (st : List Open) → NestsAt s p st → P p st) (λ p ih st d. step p st (first s p d) (λ q gs a b. ih q a b gs))
