-- All instructions from a position on, each read from the next position of the one before.
use Rattle.std.specs.Prelude.{ℕ, zero, suc, List, [], ◌∷◌, length, Option, None, Some, Result, Ok, Err}
use Rattle.common.specs.declared.Refusal.{Refusal}
use Rattle.annotations.specs.Annotation.{annotation}
use Rattle.annotations.specs.declared.BinaryAnnotation.{BinaryAnnotation}

-- the instructions, and the refusal in which reading them ends, if it does
pub record Program : Type 0 where
  pub instructions : List BinaryAnnotation
  pub refusal : Option Refusal

abbrev pub ended : Option Refusal → Program
ended refusal = record { instructions = []; refusal = refusal }

abbrev pub more : BinaryAnnotation → Program → Program
more instruction rest = record { instructions = instruction ∷ rest.instructions; refusal = rest.refusal }

-- by what is read at a position, and the program from the next one on
abbrev pub on_next : Result (Option (BinaryAnnotation × ℕ)) Refusal → (ℕ → Program) → Program
on_next (Ok None) on = ended None
on_next (Ok (Some r)) on = more r.0 (on r.1)
on_next (Err e) on = ended (Some e)

-- The program from a position, of at most k instructions. (Where k runs out it ends; that `program_of` never does so early is the law
-- `program_by` of proofs/Program.antt.)
unfoldable pub program_from : ℕ → List ℕ → ℕ → Program
program_from zero s at = ended None
program_from (suc k) s at = on_next (annotation s at) (λ next. program_from k s next)

-- The program from a position. An instruction takes a byte or more, so that there are no more than bytes.
unfoldable pub program_of : List ℕ → ℕ → Program
unfolding program_from
program_of s at = program_from (suc (length s)) s at
