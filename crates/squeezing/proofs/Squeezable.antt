-- What the verdict on squeezing a stream says of it.
-- Assumes nothing.
use Rattle.std.proofs.Common.{ℕ, ◌≤◌, ◌<◌, ◌≡◌, refl, arith, List, length, Result, Ok, Err}
use Rattle.std.specs.Result.{result_and}
use Rattle.std.proofs.lemmas.Grind.{common_steps}
use Rattle.common.specs.declared.Refusal.{Refusal}
use Rattle.common.specs.declared.Refusal.TheVariants.{NoRoom}
use Rattle.iter.specs.Reading.{read_of}
use Rattle.check_nesting.specs.declared.Counts.{Counts}
use Rattle.check_nesting.specs.Check.{Verdict, check_of}
use Rattle.squeezing.specs.Squeeze.{landings, nexts_of, squeezed, squeezable, squeeze_of}

-- it passes the check, and its nexts name records
pub record CanSqueeze (s : List ℕ) (start : ℕ) : Type 0 where
  pub counts : Counts
  pub checked : check_of s start ≡ Ok counts
  pub nexts : nexts_of (landings s start) (read_of s start).recs ≡ Ok tt

-- a refusal goes on, whatever comes behind it
pub refused : {A B : Type 0} {e : Refusal} (v : Verdict) (a : A) (b : Result B Refusal) → Err e ≡ result_and v (Ok a) → Err e ≡ result_and v b
refused (Ok u) a b p = cc
refused (Err x) a b p = cc

module _ (s : List ℕ) (start : ℕ) where
  pub can_squeeze : squeezable s start ≡ Ok tt → CanSqueeze s start
  unfolding squeezable
  can_squeeze = by (check_of s start) refl
    where
      by : (c : Result Counts Refusal) → check_of s start ≡ c → result_and c (nexts_of (landings s start) (read_of s start).recs) ≡ Ok tt → CanSqueeze s start
      by (Ok n) e v = record { counts = n; checked = e; nexts = v }
      by (Err x) e v = cc

  pub squeezable_is : CanSqueeze s start → squeezable s start ≡ Ok tt
  unfolding squeezable
  squeezable_is q = rw (q.checked, q.nexts) refl

  -- with room enough, or less
  module _ (can : squeezable s start ≡ Ok tt) where
    pub fits : {room : ℕ} → length (squeezed s start) ≤ room → squeeze_of s start room ≡ Ok (length (squeezed s start))
    unfolding squeeze_of
    fits l = grind (arith, common_steps, can)

    pub too_long : {room : ℕ} → room < length (squeezed s start) → squeeze_of s start room ≡ Err NoRoom
    unfolding squeeze_of
    too_long l = grind (arith, common_steps, can)
