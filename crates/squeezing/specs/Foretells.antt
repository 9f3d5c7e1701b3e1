-- What a preview says of a squeeze (document 02, M-104): "These are exactly what squeezing into a long enough buffer would give, and its
-- refusals come likewise, except 18."
use Rattle.std.specs.Prelude.{ℕ, ◌+◌, ◌<◌, ◌≤◌, ◌≡◌, ◌⊎◌, List, length, Result, Ok, Err, IsOk}
use Rattle.common.specs.declared.Refusal.{Refusal}
use Rattle.common.specs.declared.Refusal.TheVariants.{NothingThere, NoRoom}
use Rattle.iter.specs.Reading.{read_of, Begins}
use Rattle.check_nesting.specs.Check.{counts_of}
use Rattle.squeezing.specs.declared.Gain.{Gain}
use Rattle.squeezing.specs.Squeeze.{squeezed, squeeze_of}
use Rattle.squeezing.specs.Squeezes.{SameRecord}

-- Where it answers: with room enough squeezing answers the same length, and 18 with less. The record at i is the one at `at` in the
-- squeezed stream. The fillers dropped are those of the stream less those of the squeezed one.
pub record Foretold (s : List ℕ) (start i : ℕ) (g : Gain) : Type 0 where
  pub with_room : (room : ℕ) → g.length ≤ room → squeeze_of s start room ≡ Ok g.length
  pub with_less : (room : ℕ) → room < g.length → squeeze_of s start room ≡ Err NoRoom
  pub same_record : SameRecord (read_of s start).recs (read_of (squeezed s start) start).recs i g.at
  pub fewer : (counts_of (read_of s start)).fillers ≡ g.dropped + (counts_of (read_of (squeezed s start) start)).fillers

-- Where it refuses: squeezing refuses alike, whatever the room; or it is 14, squeezing answers where it has room, and no record begins at i.
abbrev pub Foretells : List ℕ → ℕ → ℕ → Result Gain Refusal → Type 0
Foretells s start i (Ok g) = Foretold s start i g
Foretells s start i (Err e) = ((room : ℕ) → squeeze_of s start room ≡ Err e) ⊎ ((e ≡ NothingThere) × IsOk (squeeze_of s start (length (squeezed s start))) × (Begins s start i → ⊥))
