-- The cases of a test program: the length of each in four bytes, little-endian, and its bytes.
use Rattle.std.specs.Prelude.{ℕ, ◌≡◌, ◌≤◌, ◌<◌, ◌⊎◌, List, ◌++◌, length, take, Option}
use Rattle.std.specs.Int.{w32, from_le_bytes}
use Rattle.std.specs.Io.KnownBytes.{Consumes, IsAtEnd}

-- A case was read: a length for which there is room, and as many bytes, or fewer at the reader's end. They are the first n of the lent ones.
pub record IsCase (before after : Option (List ℕ)) (lent : List ℕ) (n : ℕ) : Type 0 where
  pub head : List ℕ
  pub whole_head : length head ≡ 4
  pub room : from_le_bytes w32 head ≤ length lent
  pub read : Consumes before after (head ++ take n lent)
  pub whole : (n ≡ from_le_bytes w32 head) ⊎ ((n < from_le_bytes w32 head) × IsAtEnd after)

-- None was read: the reader ends within the length, or there is no room for so many bytes. The lent ones stay as they were.
pub record NoCase (before after : Option (List ℕ)) (lent lent' : List ℕ) : Type 0 where
  pub head : List ℕ
  pub read : Consumes before after head
  pub why : ((length head < 4) × IsAtEnd after) ⊎ ((length head ≡ 4) × (length lent < from_le_bytes w32 head))
  pub kept : lent' ≡ lent
