-- Compressed numbers: one, two or four bytes, the highest first. The uppermost bits of the first byte say how many: 0, 10 or 110; none begins
-- with 111. The others are the number.
use Rattle.std.specs.Prelude.{ℕ, ◌+◌, ◌/◌, ◌%◌, List, [], ◌∷◌, cond, get_or, length, ltb, leb, eqb, ℤ, pos, neg_ℤ, Ok, Err}
use Rattle.common.specs.Bytes.{be}
use Rattle.common.specs.Reader.{Reader}
use Rattle.common.specs.declared.Refusal.TheVariants.{InvalidCompressedAnnotation}

-- how many bytes a number takes
pub data Width : Type 0 where
  one_byte : Width
  two_bytes : Width
  four_bytes : Width

abbrev pub size : Width → ℕ
size one_byte = 1
size two_bytes = 2
size four_bytes = 4

-- Numbers of a width are below its limit: 7, 14 or 29 bits are left for them.
abbrev pub limit : Width → ℕ
limit one_byte = 0x80
limit two_bytes = 0x4000
limit four_bytes = 0x20000000

-- 15, at the first byte
abbrev pub invalid : Reader ℕ
invalid s at = Err (InvalidCompressedAnnotation at)

-- a number of a width: what its bytes hold below the limit, or 15 where they are cut off
abbrev pub of_width : Width → Reader ℕ
of_width w s at = cond (leb (at + size w) (length s)) (Ok (be (size w) s at % limit w, at + size w)) (invalid s at)

-- CVUncompressData of cvinfo.h (past the end the first byte counts as 0, for which there is no room)
unfoldable pub compressed : Reader ℕ
compressed s at =
    let first : ℕ = get_or s at 0 in
    cond (ltb first 0x80) (of_width one_byte s at)
    (cond (ltb first 0xc0) (of_width two_bytes s at)
    (cond (ltb first 0xe0) (of_width four_bytes s at)
    (invalid s at)))

-- the bytes of a number in each width (CVCompressData, which takes the least); that they are read back is the law `read_back` of
-- proofs/Numbers.antt
abbrev pub compress : Width → ℕ → List ℕ
compress one_byte x = x ∷ []
compress two_bytes x = (0x80 + x / 0x100) ∷ (x % 0x100) ∷ []
compress four_bytes x = (0xc0 + x / 0x1000000) ∷ (x / 0x10000 % 0x100) ∷ (x / 0x100 % 0x100) ∷ (x % 0x100) ∷ []

-- the signed number that a compressed one stands for: the lowest bit is its sign, the others are its size (DecodeSignedInt32 of cvinfo.h)
abbrev pub signed_operand : ℕ → ℤ
signed_operand x = cond (eqb (x % 2) 0) (pos (x / 2)) (neg_ℤ (pos (x / 2)))
