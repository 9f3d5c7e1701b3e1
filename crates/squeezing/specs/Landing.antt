-- What the loops know of a position to read on from.
use Rattle.std.specs.Prelude.{ℕ, ◌≤◌, ◌≡◌, List, Option}
use Rattle.iter.specs.Reading.{read_of}
use Rattle.squeezing.specs.declared.landing.Landing.{Landing}
use Rattle.squeezing.specs.Squeeze.{lands_from}

-- where the record of index i lands, when the first record, at `first`, stays where it is
abbrev pub landing_at : List ℕ → ℕ → ℕ → Option ℕ
landing_at s first i = lands_from first (read_of s first).recs i

-- What is read next lands no later than it stands, and reading on from here finds where each later record lands.
pub record Lands (s : List ℕ) (first : ℕ) (l : Landing) : Type 0 where
  pub low : l.to ≤ l.at
  pub later : (i : ℕ) → l.at ≤ i → lands_from l.to (read_of s l.at).recs i ≡ landing_at s first i
