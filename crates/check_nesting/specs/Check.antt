-- Check (document 01, "Check"): walks steps to End with a stack of open openers.
use Rattle.std.specs.Prelude.{ℕ, ◌+◌, ◌-◌, max, ◌≡◌, List, [], ◌∷◌, length, Result, Ok, Err, IfOk}
use mathlib.Core.List.{tail}
use Rattle.std.specs.List.{sum_by, count_by}
use Rattle.common.specs.declared.Refusal.{Refusal}
use Rattle.common.specs.declared.Refusal.TheVariants.{LeftOpen}
use Rattle.constants.specs.Kind.{opens}
use Rattle.constants.specs.Raw.{nesting_role_of}
use Rattle.constants.specs.declared.Role.{Role}
use Rattle.constants.specs.declared.Role.TheVariants.{Neither, Opens, Closes}
use Rattle.iter.specs.Step.{within}
use Rattle.iter.specs.Reading.{Rec, Ending, ends, refuses, Reading, read_of}
use Rattle.check_nesting.specs.declared.act.Open.{Open}
use Rattle.check_nesting.specs.declared.act.Act.{Act}
use Rattle.check_nesting.specs.declared.act.Act.TheVariants as A
use Rattle.check_nesting.specs.Act.{act_of}
use Rattle.check_nesting.specs.declared.Counts.{Counts}

-- what the check says of records: they nest, or the first refusal
abbrev pub Verdict : Type 0
Verdict = Result Unit Refusal

-- The verdict from a record, where `on` is the verdict on the records after it, with a stack.
abbrev pub on_act : List Open → Result Act Refusal → (List Open → Verdict) → Verdict
on_act st (Ok A.Stay) on = on st
on_act st (Ok (A.Push o)) on = on (o ∷ st)
on_act st (Ok A.Pop) on = on (tail st)
on_act st (Err e) on = Err e

-- Step's refusals with step's position. At End: 12 with the innermost open index.
abbrev pub on_end : Ending → List Open → Verdict
on_end (refuses e) st = Err e
on_end ends [] = Ok tt
on_end ends (o ∷ st) = Err (LeftOpen o.index)

-- the verdict on the records that are left, and on how reading ends
unfoldable pub verdict_on : Ending → List Rec → List Open → Verdict
verdict_on ending [] st = on_end ending st
verdict_on ending (r ∷ rs) st = on_act st (act_of r st) (λ st'. verdict_on ending rs st')

unfoldable pub verdict_from : Reading → List Open → Verdict
unfolding verdict_on
verdict_from reading st = verdict_on reading.last.ending reading.recs st

-- how many scopes are open behind a record
abbrev pub depth_after : Role → ℕ → ℕ
depth_after Opens depth = depth + 1
depth_after Closes depth = depth - 1
depth_after Neither depth = depth

-- deepest nesting: how many are open where the most are, with so many open in front of the records
unfoldable pub deepest_of : ℕ → List Rec → ℕ
deepest_of depth [] = depth
deepest_of depth (r ∷ rs) = max depth (deepest_of (depth_after (nesting_role_of r.bytes) depth) rs)

-- the bytes of a record, length field included
abbrev pub size : Rec → ℕ
size r = 2 + length r.bytes

-- Records yielded and passed over, the bytes of each group (length fields included), openers, deepest nesting.
unfoldable pub counts_of : Reading → Counts
unfolding deepest_of
counts_of reading =
    record {
      records = length reading.recs;
      bytes = sum_by size reading.recs;
      fillers = sum_by (λ r. r.fillers) reading.recs + reading.last.fillers;
      filler_bytes = sum_by (λ r. r.filler_bytes) reading.recs + reading.last.filler_bytes;
      openers = count_by (λ r. opens (nesting_role_of r.bytes)) reading.recs;
      deepest = deepest_of 0 reading.recs;
    }

-- Answer: the counts, where the records nest.
abbrev pub answer_by : Verdict → Counts → Result Counts Refusal
answer_by (Ok _) n = Ok n
answer_by (Err e) n = Err e

unfoldable pub check_of : List ℕ → ℕ → Result Counts Refusal
unfolding verdict_from counts_of
check_of s start = answer_by (verdict_from (read_of s start) []) (counts_of (read_of s start))

-- The two byte sums add up to stream length minus start, the start brought within the stream.
abbrev pub AddsUp : Result Counts Refusal → List ℕ → ℕ → Type 0
AddsUp r s start = IfOk r (λ n. n.bytes + n.filler_bytes ≡ length s - within s start)
