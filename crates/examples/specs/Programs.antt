-- The line programs of pdb's own tests (src/symbol/annotations.rs), and a refusal of each sort (document 02, M-100). Each holds by computing the
-- definitions; `negsuc n` is -(n + 1).
use Rattle.std.specs.Prelude.{ℕ, ◌≡◌, refl, List, [], ◌∷◌, pos, negsuc, Option, None, Some, Err}
use Rattle.common.specs.Bytes.{be}
use Rattle.common.specs.declared.Refusal.{Refusal}
use Rattle.common.specs.declared.Refusal.TheVariants.{InvalidCompressedAnnotation, UnknownBinaryAnnotation}
use Rattle.annotations.specs.Compressed.{compressed}
use Rattle.annotations.specs.Annotation.{operands, annotation}
use Rattle.annotations.specs.Program.{Program, program_of, program_from}
use Rattle.annotations.specs.declared.BinaryAnnotation.{BinaryAnnotation}
use Rattle.annotations.specs.declared.BinaryAnnotation.TheVariants.{ChangeCodeOffset, ChangeLineOffset, ChangeCodeOffsetAndLineOffset, ChangeCodeLengthAndCodeOffset}

reading : Unit {0}
unfolding program_of program_from annotation operands compressed be
reading = tt

abbrev program : List BinaryAnnotation → Option Refusal → Program
program instructions refusal = record { instructions = instructions; refusal = refusal }

first :
    program_of
    (0x0B ∷ 0x03 ∷ 0x06 ∷ 0x0A ∷ 0x03 ∷ 0x08 ∷ 0x06 ∷ 0x06 ∷ 0x03 ∷ 0x2D ∷ 0x06 ∷ 0x08 ∷ 0x03 ∷ 0x07 ∷ 0x0B ∷ 0x72 ∷ 0x06 ∷ 0x06 ∷ 0x0C ∷ 0x03 ∷ 0x07 ∷ 0x06 ∷ 0x0F ∷ 0x0C ∷ 0x06 ∷ 0x05 ∷ 0x00 ∷ 0x00 ∷ []) 0
    ≡ program
    (ChangeCodeOffsetAndLineOffset 3 (pos 0) ∷
    ChangeLineOffset (pos 5) ∷
    ChangeCodeOffset 8 ∷
    ChangeLineOffset (pos 3) ∷
    ChangeCodeOffset 45 ∷
    ChangeLineOffset (pos 4) ∷
    ChangeCodeOffset 7 ∷
    ChangeCodeOffsetAndLineOffset 2 (negsuc 2) ∷
    ChangeLineOffset (pos 3) ∷
    ChangeCodeLengthAndCodeOffset 3 7 ∷
    ChangeLineOffset (negsuc 6) ∷
    ChangeCodeLengthAndCodeOffset 6 5 ∷ [])
    None
unfolding reading
first = refl

second :
    program_of
    (0x03 ∷ 0x50 ∷ 0x06 ∷ 0x0E ∷ 0x03 ∷ 0x0C ∷ 0x06 ∷ 0x04 ∷ 0x03 ∷ 0x32 ∷ 0x06 ∷ 0x06 ∷ 0x03 ∷ 0x54 ∷ 0x0B ∷ 0x23 ∷ 0x0B ∷ 0x5C ∷ 0x0B ∷ 0x43 ∷ 0x0B ∷ 0x2F ∷ 0x06 ∷ 0x04 ∷ 0x0C ∷ 0x2D ∷ 0x09 ∷ 0x03 ∷ 0x3B ∷ 0x06 ∷ 0x1D ∷ 0x0C ∷ 0x05 ∷ 0x06 ∷ 0x00 ∷ 0x00 ∷ []) 0
    ≡ program
    (ChangeCodeOffset 80 ∷
    ChangeLineOffset (pos 7) ∷
    ChangeCodeOffset 12 ∷
    ChangeLineOffset (pos 2) ∷
    ChangeCodeOffset 50 ∷
    ChangeLineOffset (pos 3) ∷
    ChangeCodeOffset 84 ∷
    ChangeCodeOffsetAndLineOffset 3 (pos 1) ∷
    ChangeCodeOffsetAndLineOffset 12 (negsuc 1) ∷
    ChangeCodeOffsetAndLineOffset 3 (pos 2) ∷
    ChangeCodeOffsetAndLineOffset 15 (pos 1) ∷
    ChangeLineOffset (pos 2) ∷
    ChangeCodeLengthAndCodeOffset 45 9 ∷
    ChangeCodeOffset 59 ∷
    ChangeLineOffset (negsuc 13) ∷
    ChangeCodeLengthAndCodeOffset 5 6 ∷ [])
    None
unfolding reading
second = refl

-- the operand of the second instruction is cut off: 15, at 3
cut_off : program_of (0x03 ∷ 0x01 ∷ 0x03 ∷ 0xC0 ∷ 0x01 ∷ []) 0 ≡ program (ChangeCodeOffset 1 ∷ []) (Some (InvalidCompressedAnnotation 3))
unfolding reading
cut_off = refl

-- no number begins with the bits 111: 15
malformed : annotation (0xE0 ∷ 0x00 ∷ 0x00 ∷ 0x01 ∷ []) 0 ≡ Err (InvalidCompressedAnnotation 0)
unfolding reading
malformed = refl

-- no instruction has the code 14, here in two bytes: 16
unknown : annotation (0x80 ∷ 0x0E ∷ 0x01 ∷ []) 0 ≡ Err (UnknownBinaryAnnotation 14)
unfolding reading
unknown = refl
