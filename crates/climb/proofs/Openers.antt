-- What is known of an opener that is read.
-- Assumes nothing.
use Rattle.std.proofs.Common.{ℕ, ◌<◌, ◌≤◌, ◌≡◌, refl, arith, List, length, Result, Ok, Err}
use Rattle.iter.specs.Step.{scan_of, step_of}
use Rattle.common.specs.declared.Refusal.{Refusal}
use Rattle.iter.specs.declared.Next.{Next}
use Rattle.iter.specs.declared.Next.TheVariants as N
use Rattle.iter.proofs.Reading.{step_fits}
use Rattle.climb.specs.Opener.{opener_on, opener_of}

-- an opener that is read lies within a stream that steps take
pub record Read (s : List ℕ) (at : ℕ) : Type 0 where
  pub inside : at < length s
  pub small : length s ≤ 4294967295

pub opener_read : (s : List ℕ) (at : ℕ) {parent : ℕ} → Ok parent ≡ opener_of s at → Read s at
unfolding opener_of step_of
opener_read s at {parent} o = by (scan_of s at).step refl o
  where
    by : (n : Result Next Refusal) → (scan_of s at).step ≡ n → Ok parent ≡ opener_on s at n → Read s at
    by (Err x) e q = cc
    by (Ok (N.End p)) e q = cc
    by (Ok (N.Record it)) e q = let y = step_fits s at it e in record { inside = omega arith; small = omega arith }

pub opener_fits : (s : List ℕ) (at : ℕ) {parent : ℕ} → Ok parent ≡ opener_of s at → at < 4294967296
opener_fits s at o = let r = opener_read s at o in omega arith
