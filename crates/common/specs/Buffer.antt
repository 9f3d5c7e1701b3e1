-- What a call that reads from a buffer leaves: what the reader gives of the buffer's bytes and position.
use Rattle.std.specs.Prelude.{ℕ, ◌≡◌, Result, Ok, Err}
use Rattle.common.specs.Reader.{Read, Reader}
use Rattle.common.specs.declared.Refusal.{Refusal}
use Rattle.common.specs.declared.buffer.ParseBuffer.{ParseBuffer}

-- an answer, with the position behind what was read
abbrev pub up_to : {A : Type 0} → ℕ → Result A Refusal → Read A
up_to to (Ok a) = Ok (a, to)
up_to to (Err e) = Err e

-- the answer is the reader's, a value moves the buffer behind it, and the bytes stay the same
pub record Reads {A : Type 0} (m : Reader A) (b : ParseBuffer) (r : Result A Refusal) (b' : ParseBuffer) : Type 0 where
  pub answer : up_to b'.pos r ≡ m b.bytes.now b.pos
  pub same : b'.bytes ≡ b.bytes
