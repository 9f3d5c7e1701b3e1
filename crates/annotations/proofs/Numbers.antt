-- Laws of compressed numbers.
-- Assumes nothing.
use Rattle.std.proofs.Common.{ℕ, ◌+◌, ◌/◌, ◌<◌, ◌≤◌, ◌≡◌, ◌∙◌, arith, List, ◌++◌, length, get_or, Ok}
use Rattle.std.proofs.lemmas.Grind.{common_steps}
use Rattle.std.proofs.lemmas.List.{get_or-append-add}
use Rattle.common.specs.Bytes.{be}
use Rattle.common.proofs.Bytes.{be_behind}
use Rattle.annotations.specs.Compressed.{Width, one_byte, two_bytes, four_bytes, size, limit, compress, compressed}

-- A number that is read is below 2 ^ 29, and is read from bytes that are there.
pub record Compressed (s : List ℕ) (at x next : ℕ) : Type 0 where
  pub below : x < 0x20000000
  pub moves : at < next
  pub within : next ≤ length s

pub is_compressed : (s : List ℕ) (at x next : ℕ) → compressed s at ≡ Ok (x, next) → Compressed s at x next
unfolding compressed
is_compressed s at x next e = record { below = grind (arith, common_steps); moves = grind (arith, common_steps); within = grind (arith, common_steps) }

-- each number of each width is read back, whatever stands before and behind its bytes
pub read_back : (w : Width) (x : ℕ) (before after : List ℕ) → x < limit w →
    compressed (before ++ compress w x ++ after) (length before) ≡ Ok (x, length before + size w)
unfolding compressed be
read_back one_byte x before after h = grind (arith, common_steps)
read_back two_bytes x before after h = grind (arith, common_steps)
read_back four_bytes x before after h =
    let t : List ℕ = compress four_bytes x ++ after in
    let first : get_or (before ++ t) (length before) 0 ≡ 0xc0 + x / 0x1000000 = grind (arith, common_steps, get_or-append-add before t 0 0) in
    let number : be 4 (before ++ t) (length before + 0) ≡ 0xc0000000 + x = be_behind 4 before t 0 ∙ omega (arith, h) in
    grind (arith, first, number, common_steps)
