-- What a call leaves in the bytes that were lent to it.
use Rattle.std.specs.Prelude.{ℕ, ◌+◌, ◌≤◌, ◌≡◌, List, ◌++◌, length, take, drop}
use Rattle.listing.specs.declared.TheConstants.{TEXT_ROOM}
use Rattle.listing.specs.declared.text.Text.{Text}

-- text stands from position at on, and ends before position to; all other bytes are as they were before
pub record Puts (text : List ℕ) (at : ℕ) (before after : List ℕ) (to : ℕ) : Type 0 where
  pub ends : to ≡ at + length text
  pub bytes : after ≡ take at before ++ text ++ drop to before

-- the text fits behind what was written
abbrev pub HasRoom : List ℕ → Text → Type 0
HasRoom text t = t.len + length text ≤ TEXT_ROOM

-- text stands behind what was written, in the same lent bytes
pub record Writes (text : List ℕ) (old new : Text) : Type 0 where
  pub puts : Puts text old.len old.bytes.now new.bytes.now new.len
  pub same : new.bytes.ghost_name ≡ old.bytes.ghost_name
