-- Preview of a squeeze (document 02, M-104).
use Rattle.std.specs.Prelude.{ℕ, ◌+◌, List, [], ◌∷◌, length, sum_by, Option, None, Some, Result, Ok, Err}
use Rattle.std.specs.Result.{result_and}
use Rattle.common.specs.declared.Refusal.{Refusal}
use Rattle.common.specs.declared.Refusal.TheVariants.{NothingThere}
use Rattle.iter.specs.Reading.{Rec, Last, read_of}
use Rattle.squeezing.specs.declared.Gain.{Gain}
use Rattle.squeezing.specs.Squeeze.{landings, squeezed, squeezable}

-- "the number of fillers dropped": of those that steps pass over, the ones behind the first record
abbrev pub dropped_by : List Rec → Last → ℕ
dropped_by [] last = 0
dropped_by (r ∷ rs) last = sum_by (λ r. r.fillers) rs + last.fillers

unfoldable pub dropped : List ℕ → ℕ → ℕ
dropped s start = dropped_by (read_of s start).recs (read_of s start).last

-- "the length, the number of fillers dropped and the new position of a given record"
abbrev pub gain : List ℕ → ℕ → ℕ → Gain
gain s start at = record { length = length (squeezed s start); dropped = dropped s start; at = at }

-- "A position with no yielded record gets 14"
abbrev pub preview_at : List ℕ → ℕ → Option ℕ → Result Gain Refusal
preview_at s start (Some at) = Ok (gain s start at)
preview_at s start None = Err NothingThere

-- "its refusals come likewise, except 18"; 14 "after them"
unfoldable pub preview_of : List ℕ → ℕ → ℕ → Result Gain Refusal
preview_of s start i = result_and (squeezable s start) (preview_at s start (landings s start i))
