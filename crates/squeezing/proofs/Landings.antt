-- Laws of where records land.
-- Assumes nothing.
use Rattle.std.proofs.Common.{ℕ, ◌+◌, ◌≤◌, ◌<◌, ◌≡◌, refl, sym, ap, ◌∙◌, arith, List, [], ◌∷◌, length, cond, eqb-true, eq-eqb, ne_eqb, Bool, true, false, None, Some, Result, Ok, Err}
use Rattle.std.specs.Prelude.{eqb, unwrap_or}
use Rattle.check_nesting.specs.Check.{size}
use Rattle.std.proofs.lemmas.Grind.{common_steps}
use Rattle.common.specs.declared.Refusal.{Refusal}
use Rattle.iter.specs.Step.{scan_of}
use Rattle.iter.specs.Reading.{Rec, bytes_at, rec_at, read_of}
use Rattle.iter.specs.declared.Scan.{Scan}
use Rattle.iter.specs.declared.Next.{Next}
use Rattle.iter.specs.declared.Record.{Record}
use Rattle.iter.specs.declared.Next.TheVariants as N
use Rattle.iter.proofs.Reading.{step_fits, again, read_by}
use Rattle.iter.proofs.Rows.{Wholes}
use Rattle.iter.proofs.Records.{read-ind, Rising, rising, bytes-length}
use Rattle.squeezing.specs.Squeeze.{lands_from}
use Rattle.squeezing.specs.Landing.{Lands, landing_at}
use Rattle.squeezing.specs.declared.landing.Landing.{Landing}

-- no record of a list that rises begins before it
lands_before : (rs : List Rec) (p to i : ℕ) → Rising p rs → i < p → lands_from to rs i ≡ None
unfolding lands_from
lands_before [] p to i ri l = refl
lands_before (r ∷ rs) p to i ri l = grind (arith, common_steps, lands_before rs (r.index + 2 + length r.bytes) (to + (2 + length r.bytes)) i)

-- no record lands behind where it was
pub lands_within : (s : List ℕ) (rs : List Rec) (p at i : ℕ) → Rising p rs → Wholes s rs → at ≤ p → p ≤ length s → unwrap_or (lands_from at rs i) 0 ≤ length s
unfolding lands_from
lands_within s [] p at i ri w l h = omega arith
lands_within s (r ∷ rs) p at i ri w l h =
    grind (arith, common_steps, lands_within s rs (r.index + 2 + length r.bytes) (at + size r) i ri.1 w.1 (omega (arith, ri.0)) w.0.fits.within, w.0.fits)

-- where a record lands: here, if it is the first of the list, or behind that
lands_first : (s : List ℕ) (it : Record) (c : Scan) (rs : List Rec) (to i : ℕ) → length (bytes_at s it) ≡ it.len →
    lands_from to (rec_at s c it ∷ rs) i ≡ cond (eqb it.index i) (Some to) (lands_from (to + 2 + it.len) rs i)
unfolding lands_from
lands_first s it c rs to i long = let on : to + (2 + it.len) ≡ to + 2 + it.len = omega arith in rw (long, on) refl

module _ (s : List ℕ) (l : Landing) where
  lands_by : (it : Record) → (scan_of s l.at).step ≡ Ok (N.Record it) → (i : ℕ) →
      lands_from l.to (read_of s l.at).recs i ≡ cond (eqb it.index i) (Some l.to) (lands_from (l.to + 2 + it.len) (read_of s it.next).recs i)
  lands_by it e i = rw (read_by s l.at (Ok (N.Record it)) e) (lands_first s it (scan_of s l.at) (read_of s it.next).recs l.to i (bytes-length s l.at it e))

  lands_no_more : (n : Result Next Refusal) → (scan_of s l.at).step ≡ n → ((it : Record) → n ≡ Ok (N.Record it) → ⊥) → (i : ℕ) → lands_from l.to (read_of s l.at).recs i ≡ None
  unfolding lands_from
  lands_no_more (Err x) e never i = rw (read_by s l.at (Err x) e) refl
  lands_no_more (Ok (N.End p)) e never i = rw (read_by s l.at (Ok (N.End p)) e) refl
  lands_no_more (Ok (N.Record it)) e never i = absurd (never it refl)

-- what stands no later than it stood does so behind the next record too
pub behind_fits : (s : List ℕ) (here : Landing) → here.to ≤ here.at → {it : Record} → (scan_of s here.at).step ≡ Ok (N.Record it) → here.to + 2 + it.len ≤ it.next
behind_fits s here low {it} e = omega (arith, low, step_fits s here.at it e)

-- The loop's invariant: the record at i lands where reading on from here finds it.
pub record Seeking (s : List ℕ) (from : Landing) (i : ℕ) (here : Landing) : Type 0 where
  pub low : here.to ≤ here.at
  pub lands : lands_from here.to (read_of s here.at).recs i ≡ lands_from from.to (read_of s from.at).recs i

module _ {s : List ℕ} {from : Landing} {i : ℕ} {here : Landing} (g : Seeking s from i here) where
  pub at_end : {p : ℕ} → (scan_of s here.at).step ≡ Ok (N.End p) → None ≡ lands_from from.to (read_of s from.at).recs i
  at_end {p} e = sym (lands_no_more s here (Ok (N.End p)) e (λ it q. cc) i) ∙ g.lands

  pub at_refused : {x : Refusal} → (scan_of s here.at).step ≡ Err x → None ≡ lands_from from.to (read_of s from.at).recs i
  at_refused {x} e = sym (lands_no_more s here (Err x) e (λ it q. cc) i) ∙ g.lands

  module _ {it : Record} (e : (scan_of s here.at).step ≡ Ok (N.Record it)) where
    left : cond (eqb it.index i) (Some here.to) (lands_from (here.to + 2 + it.len) (read_of s it.next).recs i) ≡ lands_from from.to (read_of s from.at).recs i
    left = sym (lands_by s here it e i) ∙ g.lands

    pub at_found : it.index ≡ i → Some here.to ≡ lands_from from.to (read_of s from.at).recs i
    at_found q = grind (arith, common_steps, left)

    pub at_past : i < it.index → None ≡ lands_from from.to (read_of s from.at).recs i
    at_past q = grind (arith, common_steps, left, lands_before (read_of s it.next).recs it.next (here.to + 2 + it.len) i (rising s it.next) (omega (arith, step_fits s here.at it e)))

    pub goes_on : ¬ (it.index ≡ i) → Seeking s from i (record { at = it.next; to = here.to + 2 + it.len })
    goes_on n = record { low = behind_fits s here g.low e; lands = grind (arith, common_steps, left) }

-- the first record keeps its position
pub first_lands : (s : List ℕ) (first : ℕ) → Lands s first (record { at = first; to = first })
first_lands s first = record { low = omega arith; later = λ i l. refl }

-- a record that is found lands at no later position, and reading on from it finds the later ones where reading on from earlier does
record FoundLanding (s : List ℕ) (at to : ℕ) (rs : List Rec) (i p : ℕ) : Type 0 where
  behind : at ≤ i
  low : p ≤ i
  later : (x : ℕ) → i ≤ x → lands_from p (read_of s i).recs x ≡ lands_from to rs x

found : (s : List ℕ) (at : ℕ) → (to i p : ℕ) → to ≤ at → lands_from to (read_of s at).recs i ≡ Some p → FoundLanding s at to (read_of s at).recs i p
unfolding lands_from
found s =
    read-ind s (λ at r. (to i p : ℕ) → to ≤ at → lands_from to r.recs i ≡ Some p → FoundLanding s at to r.recs i p)
    (λ at q e to i p l h. cc)
    (λ at x e to i p l h. cc)
    (λ at it e ih to i p l h.
    by at it e ih to i p l (eqb it.index i) refl (sym (lands_first s it (scan_of s at) (read_of s it.next).recs to i (bytes-length s at it e)) ∙ h))
  where
    by : (at : ℕ) (it : Record) → (scan_of s at).step ≡ Ok (N.Record it) →
        ((to i p : ℕ) → to ≤ it.next → lands_from to (read_of s it.next).recs i ≡ Some p → FoundLanding s it.next to (read_of s it.next).recs i p) → (to i p : ℕ) → to ≤ at →
        (b : Bool) → eqb it.index i ≡ b → cond b (Some to) (lands_from (to + 2 + it.len) (read_of s it.next).recs i) ≡ Some p →
        FoundLanding s at to (rec_at s (scan_of s at) it ∷ (read_of s it.next).recs) i p
    by at it e ih to i p l true q h =
        let here : it.index ≡ i = eqb-true _ _ q in
        let is : to ≡ p = cc in
        let first = λ (c : Scan) (x : ℕ). lands_first s it c (read_of s it.next).recs to x (bytes-length s at it e) in
        record {
          behind = omega (arith, step_fits s at it e);
          low = omega (arith, step_fits s at it e);
          later = λ x m. rw (sym here, sym is, read_by s it.index (Ok (N.Record it)) (ap (λ (c : Scan). c.step) (again s at it e))) (first (scan_of s it.index) x ∙ sym (first (scan_of s at) x));
        }
    by at it e ih to i p l false q h =
        let k = ih (to + 2 + it.len) i p (omega (arith, step_fits s at it e)) h in
        record {
          behind = omega (arith, k.behind, step_fits s at it e);
          low = k.low;
          later = λ x m.
              let other : ¬ (it.index ≡ x) = λ z. omega (arith, k.behind, step_fits s at it e) in
              k.later x m ∙ sym (lands_first s it (scan_of s at) (read_of s it.next).recs to x (bytes-length s at it e) ∙ rw (ne_eqb it.index x other) refl);
        }

pub found_lands : (s : List ℕ) (first : ℕ) (from : Landing) (i p : ℕ) → Lands s first from → lands_from from.to (read_of s from.at).recs i ≡ Some p →
    Lands s first (record { at = i; to = p })
found_lands s first from i p g h = let k = found s from.at from.to i p g.low h in record { low = k.low; later = λ x m. k.later x m ∙ g.later x (omega (arith, k.behind)) }

-- a record that a step yields lands here, and the later ones behind it
module _ {s : List ℕ} {first : ℕ} {here : Landing} (g : Lands s first here) {it : Record} (e : (scan_of s here.at).step ≡ Ok (N.Record it)) where
  pub lands_here : landing_at s first it.index ≡ Some here.to
  lands_here = sym (g.later it.index (omega (arith, step_fits s here.at it e))) ∙ lands_by s here it e it.index ∙ rw (eq-eqb it.index it.index refl) refl

  pub lands_behind : Lands s first (record { at = it.next; to = here.to + 2 + it.len })
  lands_behind =
      record {
        low = omega (arith, g.low, step_fits s here.at it e);
        later = λ i m.
            let other : ¬ (it.index ≡ i) = λ z. omega (arith, step_fits s here.at it e) in
            sym (rw (ne_eqb it.index i other) at (lands_by s here it e i)) ∙ g.later i (omega (arith, step_fits s here.at it e));
      }
