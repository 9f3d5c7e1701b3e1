-- The stack of a walk holds 64 positions at the most.
-- Assumes nothing.
use Rattle.std.proofs.Common.{ℕ, ◌≤◌, ◌≡◌, refl, sym, arith, List, [], ◌∷◌, length, Result, Ok, Err}
use mathlib.Core.List.{tail}
use Rattle.std.specs.Result.{result_unwrap_or}
use Rattle.common.specs.declared.Refusal.{Refusal}
use Rattle.constants.specs.Raw.{raw_kind}
use Rattle.iter.specs.Reading.{Rec, Ending, ends, refuses, read_of}
use Rattle.chain.specs.Finding.{Search}
use Rattle.walk.specs.declared.Turn.{Turn}
use Rattle.walk.specs.declared.Turn.TheVariants as T
use Rattle.walk.specs.Walk.{turn_of, on_turn, walk_end, walk_on, walk_from}
use Rattle.walk.proofs.Walks.{push_room}

abbrev Shallow : Search → Type 0
Shallow w = length (result_unwrap_or w.out []) ≤ 64

length_tail : (st : List ℕ) → length (tail st) ≤ length st
length_tail [] = omega arith
length_tail (x ∷ st) = omega arith

end_depth : (e : Ending) → Shallow (walk_end e)
end_depth ends = omega arith
end_depth (refuses e) = omega arith

on_depth : (i : ℕ) (ending : Ending) (rs : List Rec) (st : List ℕ) → length st ≤ 64 → Shallow (walk_on i ending rs st)
unfolding walk_on
on_depth i ending [] st h = end_depth ending
on_depth i ending (r ∷ rs) st h = by (on_depth i ending rs) (turn_of i r.index (raw_kind r.bytes) (length st)) refl
  where
    by : ((st' : List ℕ) → length st' ≤ 64 → Shallow (walk_on i ending rs st')) → (t : Result Turn Refusal) →
        turn_of i r.index (raw_kind r.bytes) (length st) ≡ t → Shallow (on_turn r st t (walk_on i ending rs))
    by ih (Ok T.Stay) e = ih st h
    by ih (Ok T.Push) e = ih (r.index ∷ st) (push_room _ _ _ _ (sym e))
    by ih (Ok T.Pop) e = ih _ (omega (arith, length_tail st))
    by ih (Ok T.Found) e = h
    by ih (Err x) e = omega arith

pub walk_depth : (s : List ℕ) (start i : ℕ) → length (result_unwrap_or (walk_from i (read_of s start) []).out []) ≤ 64
unfolding walk_from
walk_depth s start i = on_depth i (read_of s start).last.ending (read_of s start).recs [] (omega arith)
