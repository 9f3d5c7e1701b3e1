-- Numbers in a list of bytes (document 01, "Record layouts": little-endian; compressed ones are big-endian).
use Rattle.std.specs.Prelude.{ℕ, suc, zero, ◌+◌, ◌-◌, ◌*◌, ◌^◌, List, ◌++◌, length, take, drop, cond, get_or, ltb, ℤ, pos, negsuc}
use Rattle.std.specs.Int.{w32, to_le_bytes}

-- the n bytes from a position as a little-endian number; a byte past the end counts as 0
unfoldable pub le : ℕ → List ℕ → ℕ → ℕ
le zero s at = 0
le (suc n) s at = get_or s at 0 + 256 * le n s (suc at)

-- the n bytes from a position as a big-endian number; a byte past the end counts as 0
unfoldable pub be : ℕ → List ℕ → ℕ → ℕ
be zero s at = 0
be (suc n) s at = get_or s at 0 * 256 ^ n + be n s (suc at)

-- the two's complement reading of k bits: from 2 ^ (k - 1) on, x stands for x - 2 ^ k, and `negsuc n` is -(n + 1)
unfoldable pub signed : ℕ → ℕ → ℤ
signed k x = cond (ltb x (2 ^ (k - 1))) (pos x) (negsuc (2 ^ k - suc x))

-- the bytes with others in the place of those from a position on
unfoldable pub put : ℕ → List ℕ → List ℕ → List ℕ
put at xs s = take at s ++ xs ++ drop (at + length xs) s

-- the same with a number of four bytes, little-endian
abbrev pub put_u32 : ℕ → ℕ → List ℕ → List ℕ
put_u32 at x s = put at (to_le_bytes w32 x) s
