-- The walk finder (document 01, "Walk finder"): a recursion over the records that steps from the start yield.
use Rattle.std.specs.Prelude.{ℕ, List, [], ◌∷◌, cond, length, ltb, leb, eqb, Result, Ok, Err}
use mathlib.Core.List.{tail}
use Rattle.common.specs.declared.Refusal.{Refusal}
use Rattle.common.specs.declared.Refusal.TheVariants.{TooDeep, NothingOpen, NothingThere}
use Rattle.constants.specs.declared.Role.{Role}
use Rattle.constants.specs.declared.Role.TheVariants.{Neither, Opens, Closes}
use Rattle.iter.specs.Reading.{Rec, Ending, ends, refuses, Reading, read_of}
use Rattle.constants.specs.Kind.{nesting_role}
use Rattle.constants.specs.Raw.{raw_kind}
use Rattle.chain.specs.Chain.{max_depth}
use Rattle.chain.specs.Finding.{Search, seen, found_at, refused_with, finding_of}
use Rattle.chain.specs.declared.Found.{Found}
use Rattle.walk.specs.declared.Turn.{Turn}
use Rattle.walk.specs.declared.Turn.TheVariants as T

-- An opener is pushed, 9 for the 65th; a closer pops, 10 if none. (Fields are not looked at.)
abbrev pub turn_of_role : Role → ℕ → Result Turn Refusal
turn_of_role Opens depth = cond (leb max_depth depth) (Err (TooDeep 0)) (Ok T.Push)
turn_of_role Closes depth = cond (eqb depth 0) (Err (NothingOpen 0)) (Ok T.Pop)
turn_of_role Neither depth = Ok T.Stay

-- For each record read: index i answers the stack; a larger index is 14; then its role decides.
unfoldable pub turn_of : ℕ → ℕ → ℕ → ℕ → Result Turn Refusal
turn_of i index kind depth =
    cond (eqb index i) (Ok T.Found)
    (cond (ltb i index) (Err NothingThere)
    (turn_of_role (nesting_role kind) depth))

-- The walk from a record, where `on` is the walk over the records after it, with a stack.
abbrev pub on_turn : Rec → List ℕ → Result Turn Refusal → (List ℕ → Search) → Search
on_turn r st (Ok T.Stay) on = seen r (on st)
on_turn r st (Ok T.Push) on = seen r (on (r.index ∷ st))
on_turn r st (Ok T.Pop) on = seen r (on (tail st))
on_turn r st (Ok T.Found) on = found_at r st
on_turn r st (Err e) on = seen r (refused_with e)

-- Where no record is left: step's refusals; End is 14.
abbrev pub walk_end : Ending → Search
walk_end ends = refused_with NothingThere
walk_end (refuses e) = refused_with e

unfoldable pub walk_on : ℕ → Ending → List Rec → List ℕ → Search
walk_on i ending [] st = walk_end ending
walk_on i ending (r ∷ rs) st = on_turn r st (turn_of i r.index (raw_kind r.bytes) (length st)) (λ st'. walk_on i ending rs st')

-- the walk over a reading, with a stack
unfoldable pub walk_from : ℕ → Reading → List ℕ → Search
unfolding walk_on
walk_from i reading st = walk_on i reading.last.ending reading.recs st

unfoldable pub walk_of : List ℕ → ℕ → ℕ → Result Found Refusal
unfolding walk_from
walk_of s start i = finding_of (walk_from i (read_of s start) [])
