-- The instructions of an inline site (document 02, M-100), by their codes: BinaryAnnotationOpcode of cvinfo.h.
use Rattle.std.specs.Prelude.{ℕ, ◌<◌, ◌≤◌, ◌/◌, ◌%◌, List, Bool, true, false, cond, eqb, ltb, length, Option, None, Some, Result, Ok, Err, IfOk, IfSome}
use Rattle.common.specs.Reader.{Read, Reader, ◌>>=◌, done, refuse}
use Rattle.common.specs.declared.Refusal.{Refusal}
use Rattle.common.specs.declared.Refusal.TheVariants.{UnknownBinaryAnnotation}
use Rattle.annotations.specs.Compressed.{compressed, signed_operand}
use Rattle.annotations.specs.declared.BinaryAnnotation.{BinaryAnnotation}
use Rattle.annotations.specs.declared.BinaryAnnotation.TheVariants.{CodeOffset, ChangeCodeOffsetBase, ChangeCodeOffset, ChangeCodeLength, ChangeFile, ChangeLineOffset, ChangeLineEndDelta, ChangeRangeKind, ChangeColumnStart, ChangeColumnEndDelta, ChangeCodeOffsetAndLineOffset, ChangeCodeLengthAndCodeOffset, ChangeColumnEnd}

-- an instruction of one operand
abbrev pub one : (ℕ → BinaryAnnotation) → Reader (Option BinaryAnnotation)
one make = do
  operand ← compressed
  done (Some (make operand))

-- one of two
abbrev pub two : (ℕ → ℕ → BinaryAnnotation) → Reader (Option BinaryAnnotation)
two make = do
  first ← compressed
  second ← compressed
  done (Some (make first second))

-- The operands of a code. Code 0 ends the instructions; 16, with the code, where no instruction has it.
unfoldable pub operands : ℕ → Reader (Option BinaryAnnotation)
operands code =
    cond (eqb code 0) (done None)
    (cond (eqb code 1) (one CodeOffset)
    (cond (eqb code 2) (one ChangeCodeOffsetBase)
    (cond (eqb code 3) (one ChangeCodeOffset)
    (cond (eqb code 4) (one ChangeCodeLength)
    (cond (eqb code 5) (one ChangeFile)
    (cond (eqb code 6) (one (λ x. ChangeLineOffset (signed_operand x)))
    (cond (eqb code 7) (one ChangeLineEndDelta)
    (cond (eqb code 8) (one ChangeRangeKind)
    (cond (eqb code 9) (one ChangeColumnStart)
    (cond (eqb code 10) (one (λ x. ChangeColumnEndDelta (signed_operand x)))
    (cond (eqb code 11) (one (λ x. ChangeCodeOffsetAndLineOffset (x % 16) (signed_operand (x / 16))))
    (cond (eqb code 12) (two ChangeCodeLengthAndCodeOffset)
    (cond (eqb code 13) (one ChangeColumnEnd)
    (refuse (UnknownBinaryAnnotation code)))))))))))))))

abbrev pub instruction : Reader (Option BinaryAnnotation)
instruction = do
  code ← compressed
  operands code

-- what was read, with the position after it
abbrev pub found : Read (Option BinaryAnnotation) → Result (Option (BinaryAnnotation × ℕ)) Refusal
found (Ok (None, next)) = Ok None
found (Ok (Some x, next)) = Ok (Some (x, next))
found (Err e) = Err e

-- the next instruction from a position, and the position after it; none at or past the end
unfoldable pub annotation : List ℕ → ℕ → Result (Option (BinaryAnnotation × ℕ)) Refusal
annotation s at = cond (ltb at (length s)) (found (instruction s at)) (Ok None)

-- An instruction that is answered moves on, and stays within the bytes: a law of `annotation` (`moves_on` of proofs/Instructions.antt).
abbrev pub MovesOn : List ℕ → ℕ → Result (Option (BinaryAnnotation × ℕ)) Refusal → Type 0
MovesOn s at r = IfOk r (λ o. IfSome o (λ x. (at < x.1) × (x.1 ≤ length s)))

-- the code of an instruction; that it is the one by which it was read is the law `code_read` of proofs/Instructions.antt
abbrev pub code_of : BinaryAnnotation → ℕ
code_of (CodeOffset _) = 1
code_of (ChangeCodeOffsetBase _) = 2
code_of (ChangeCodeOffset _) = 3
code_of (ChangeCodeLength _) = 4
code_of (ChangeFile _) = 5
code_of (ChangeLineOffset _) = 6
code_of (ChangeLineEndDelta _) = 7
code_of (ChangeRangeKind _) = 8
code_of (ChangeColumnStart _) = 9
code_of (ChangeColumnEndDelta _) = 10
code_of (ChangeCodeOffsetAndLineOffset _ _) = 11
code_of (ChangeCodeLengthAndCodeOffset _ _) = 12
code_of (ChangeColumnEnd _) = 13

-- the instructions that emit a line record
abbrev pub emits_line_info : BinaryAnnotation → Bool
emits_line_info (ChangeCodeOffset _) = true
emits_line_info (ChangeCodeOffsetAndLineOffset _ _) = true
emits_line_info (ChangeCodeLengthAndCodeOffset _ _) = true
emits_line_info _ = false
