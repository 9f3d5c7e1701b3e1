-- What planning finds.
use Rattle.std.specs.Prelude.{ℕ, ◌+◌, ◌≡◌, List, length, sum_by, IsSome, Result, Ok}
use Rattle.std.specs.Result.{result_and}
use Rattle.common.specs.declared.Refusal.{Refusal}
use Rattle.constants.specs.Raw.{nesting_role_of}
use Rattle.constants.specs.declared.Role.TheVariants.{Opens}
use Rattle.iter.specs.Step.{scan_of}
use Rattle.iter.specs.Reading.{read_of}
use Rattle.links.specs.Links.{links_of}
use Rattle.check_nesting.specs.Check.{size}
use Rattle.squeezing.specs.declared.plan.Front.{Front}
use Rattle.squeezing.specs.declared.plan.Planned.{Planned}
use Rattle.squeezing.specs.Squeeze.{first_of, nexts_of, squeezed, squeezable}
use Rattle.squeezing.specs.Preview.{dropped}
use Rattle.squeezing.specs.Landing.{landing_at}

-- what stays in front of the squeezed stream: how many bytes, and the fillers that the first step passes over
unfoldable pub front_of : List ℕ → ℕ → Front
front_of s start = record { first = first_of s start; fillers = (scan_of s start).fillers }

-- decode answers the record, if it is an opener
abbrev pub Readable : List ℕ → Type 0
Readable bytes = nesting_role_of bytes ≡ Opens → IsSome (links_of bytes)

-- What the planning loop answers: 17, or the length of the squeezed stream, that of what stands before the first record, and of the records.
unfoldable pub squeezed_length : List ℕ → ℕ → Result ℕ Refusal
squeezed_length s first = result_and (nexts_of (landing_at s first) (read_of s first).recs) (Ok (first + sum_by size (read_of s first).recs))

abbrev pub planned : List ℕ → ℕ → Planned
planned s start = record { first = first_of s start; length = length (squeezed s start); dropped = dropped s start }

-- the plan, where the stream can be squeezed
unfoldable pub plan_of : List ℕ → ℕ → Result Planned Refusal
plan_of s start = result_and (squeezable s start) (Ok (planned s start))
