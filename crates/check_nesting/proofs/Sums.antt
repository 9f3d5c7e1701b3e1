-- The two byte sums of a check that passes add up to the stream's length less the start.
-- Assumes nothing.
use Rattle.std.proofs.Common.{ℕ, ◌+◌, ◌≡◌, refl, sym, ap, arith, List, [], ◌∷◌, Result, Ok, Err}
use Rattle.std.proofs.lemmas.Grind.{common_steps}
use Rattle.std.specs.List.{sum_by}
use Rattle.common.specs.declared.Refusal.{Refusal}
use Rattle.iter.specs.Reading.{Rec, read_of}
use Rattle.iter.proofs.Records.{bytes_of_records, adds_up}
use Rattle.check_nesting.specs.declared.Counts.{Counts}
use Rattle.check_nesting.specs.Check.{size, counts_of, check_of, AddsUp}
use Rattle.check_nesting.proofs.Nesting.{good_nests, counts_are}

sums_of : (rs : List Rec) → sum_by size rs + sum_by (λ r. r.filler_bytes) rs ≡ bytes_of_records rs
sums_of [] = refl
sums_of (r ∷ rs) = grind (arith, common_steps, sums_of rs)

pub sums : (s : List ℕ) (start : ℕ) (r : Result Counts Refusal) → r ≡ check_of s start → AddsUp r s start
unfolding counts_of
sums s start (Err e) q = tt
sums s start (Ok m) q =
    let k = good_nests s start (sym q) in
    let is = counts_are s start (sym q) in
    grind (arith, common_steps, ap (λ (n : Counts). n.bytes) is, ap (λ (n : Counts). n.filler_bytes) is, sums_of (read_of s start).recs, adds_up s start k.at_end)
