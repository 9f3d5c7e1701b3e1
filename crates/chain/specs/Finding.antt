-- What a finder answers (document 01, "Walk finder", "Jump finder", "Climb finder" and the chains).
use Rattle.std.specs.Prelude.{ℕ, List, [], ◌∷◌, length, reverse, Result, Ok, Err}
use Rattle.common.specs.declared.Refusal.{Refusal}
use Rattle.iter.specs.Reading.{Rec}
use Rattle.chain.specs.declared.Found.{Found}

-- How the search of walking or jumping ends: with the stack where it finds its record, or refused; and the records that it visited. A
-- stack lists the open openers, the innermost first.
pub record Search : Type 0 where
  pub out : Result (List ℕ) Refusal
  pub visited : List Rec

-- a search that visits a record first
abbrev pub seen : Rec → Search → Search
seen r w = record { out = w.out; visited = r ∷ w.visited }

-- a search that ends: at a record, with the stack there, or with a refusal
abbrev pub found_at : Rec → List ℕ → Search
found_at r st = record { out = Ok st; visited = r ∷ [] }

abbrev pub refused_with : Refusal → Search
refused_with e = record { out = Err e; visited = [] }

-- Both finders also return the number of records read; climbing returns its links. A chain lists a stack the other way round, outermost
-- first. A refusal carries no more.
abbrev pub answer_of : Result (List ℕ) Refusal → ℕ → Result Found Refusal
answer_of (Ok stack) count = Ok (record { chain = reverse stack; count = count })
answer_of (Err e) count = Err e

-- the number of records read is the length of the list of visited ones
abbrev pub finding_of : Search → Result Found Refusal
finding_of w = answer_of w.out (length w.visited)
