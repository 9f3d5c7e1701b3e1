-- A preview says what a squeeze gives.
-- Assumes nothing.
use Rattle.std.proofs.Common.{ℕ, ◌+◌, ◌≡◌, refl, sym, ap, ◌∙◌, arith, List, [], ◌∷◌, inl, inr, length, Option, None, Some, Ok, Err}
use Rattle.std.specs.Prelude.{sum_by}
use Rattle.std.specs.Result.{result_and}
use Rattle.std.proofs.lemmas.Grind.{common_steps}
use Rattle.std.proofs.lemmas.List.Sums.{sum_by-cons}
use Rattle.iter.specs.Step.{scan_of}
use Rattle.iter.specs.Reading.{Rec, OneOf, read_of}
use Rattle.check_nesting.specs.Check.{Verdict, size, counts_of}
use Rattle.squeezing.specs.Squeeze.{landings, lands_from, first_of, squeezed, squeezable, squeeze_of}
use Rattle.squeezing.specs.Squeezes.{NoFillers}
use Rattle.squeezing.specs.Preview.{gain, preview_at, preview_of}
use Rattle.squeezing.specs.Foretells.{Foretold, Foretells}
use Rattle.squeezing.proofs.Squeezed.{Readings, read_or_none}
use Rattle.squeezing.proofs.Kept.{same_record}
use Rattle.squeezing.proofs.First.{fillers_are}
use Rattle.squeezing.proofs.Squeezable.{fits, too_long}

-- a record that lands nowhere does not begin there
lands_nowhere : (rs : List Rec) (at i : ℕ) → lands_from at rs i ≡ None → OneOf (λ r. r.index ≡ i) rs → ⊥
unfolding lands_from
lands_nowhere [] at i e b = b
lands_nowhere (r ∷ rs) at i e b = grind (arith, common_steps, lands_nowhere rs (at + size r) i, e, b)

no_fillers_sum : (rs : List Rec) → NoFillers rs → sum_by (λ r. r.fillers) rs ≡ 0
no_fillers_sum [] n = refl
no_fillers_sum (r ∷ rs) n = omega (arith, sum_by-cons (λ r. r.fillers) r rs, no_fillers_sum rs n.1, n.0)

-- the squeezed stream has the fillers in front, and no more
left_in_front : (s : List ℕ) (start : ℕ) (t : List ℕ) → Readings s start t → (counts_of (read_of t start)).fillers ≡ (scan_of s start).fillers
unfolding counts_of
left_in_front s start t q = rw q.read (omega (arith, sum_by-cons (λ r. r.fillers) q.first q.others, no_fillers_sum q.others q.no_fillers, q.front))

module _ (s : List ℕ) (start i : ℕ) where
  -- where a record lands there is one
  readings : {at : ℕ} → landings s start i ≡ Some at → Readings s start (squeezed s start)
  unfolding lands_from
  readings {at} there =
      elim (read_or_none s start) [ inl q ↦ q | inr none ↦ absurd (let k : None ≡ Some at = ap (λ rs. lands_from (first_of s start) rs i) (sym none) ∙ there in cc) ]

  -- it begins there, in the squeezed stream
  foretold : (at : ℕ) → squeezable s start ≡ Ok tt → landings s start i ≡ Some at → Readings s start (squeezed s start) → Foretold s start i (gain s start at)
  unfolding first_of
  foretold at can there q =
      record {
        with_room = λ room l. fits s start can l;
        with_less = λ room l. too_long s start can l;
        same_record = rw (q.records, q.read) (same_record i at q.landed (rw q.records at there));
        fewer = omega (arith, fillers_are s start, left_in_front s start (squeezed s start) q);
      }

  pub preview_foretells : Foretells s start i (preview_of s start i)
  unfolding preview_of squeeze_of
  preview_foretells = by (squeezable s start) refl
    where
      on : squeezable s start ≡ Ok tt → (at : Option ℕ) → landings s start i ≡ at → Foretells s start i (preview_at s start at)
      on can (Some at) there = foretold at can there (readings there)
      on can None there = inr (refl, rw (fits s start can {room = length (squeezed s start)} (omega arith)) refl, lands_nowhere (read_of s start).recs (first_of s start) i there)

      by : (v : Verdict) → squeezable s start ≡ v → Foretells s start i (result_and v (preview_at s start (landings s start i)))
      by (Ok u) can = on can _ refl
      by (Err e) v = inl (λ room. rw v refl)
