-- The climb finder (document 01, "Climb finder").
use Rattle.std.specs.Prelude.{ℕ, zero, suc, List, [], ◌∷◌, cond, length, leb, eqb, Result, Ok, Err}
use Rattle.common.specs.declared.Refusal.{Refusal}
use Rattle.common.specs.declared.Refusal.TheVariants.{TooDeep, UnusableLink}
use Rattle.chain.specs.Chain.{max_depth}
use Rattle.chain.specs.Finding.{answer_of}
use Rattle.chain.specs.declared.Found.{Found}
use Rattle.climb.specs.Opener.{opener_of}

-- Climbing returns its links, in the order climbed. (The list has the last one first.)
abbrev pub reached_by : List ℕ → Result Found Refusal
reached_by links = answer_of (Ok links) (length links)

-- The climb goes on from a parent that is a decodable opener, by that opener's own parent field; another is 13.
abbrev pub on_parent : Result ℕ Refusal → (ℕ → Result Found Refusal) → Result Found Refusal
on_parent (Ok parent) on = on parent
on_parent (Err e) on = Err UnusableLink

-- Parents until 0, from the opener at `index`, where `room` more links may be made and st are those made, the last first: a parent not
-- below the present index is 13; a 65th link is 9, before that parent is looked at.
unfoldable pub climb_on : ℕ → List ℕ → ℕ → ℕ → List ℕ → Result Found Refusal
climb_on zero s index parent st = cond (eqb parent 0) (reached_by st) (Err (TooDeep 0))
climb_on (suc room) s index parent st =
    cond (eqb parent 0) (reached_by st)
    (cond (leb index parent) (Err UnusableLink)
    (on_parent (opener_of s parent) (λ next. climb_on room s parent next (parent ∷ st))))

abbrev pub climb_by : List ℕ → ℕ → Result ℕ Refusal → Result Found Refusal
climb_by s i (Ok parent) = climb_on max_depth s i parent []
climb_by s i (Err e) = Err e

unfoldable pub climb_of : List ℕ → ℕ → Result Found Refusal
unfolding climb_on
climb_of s i = climb_by s i (opener_of s i)
