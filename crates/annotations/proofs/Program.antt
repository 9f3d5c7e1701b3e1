-- The program from a position, by the instruction that stands there and the program from the next position on: no fuel is left in it.
-- Assumes nothing.
use Rattle.std.proofs.Common.{ℕ, ◌<◌, ◌≤◌, ◌≡◌, refl, ap, List, length, Option, None, Some, Result, Ok, Err}
use Rattle.common.specs.declared.Refusal.{Refusal}
use Rattle.common.proofs.Later.{unroll}
use Rattle.annotations.specs.Annotation.{annotation, MovesOn}
use Rattle.annotations.specs.Program.{Program, more, on_next, program_from, program_of}
use Rattle.annotations.specs.declared.BinaryAnnotation.{BinaryAnnotation}
use Rattle.annotations.proofs.Instructions.{moves_on}

module _ (s : List ℕ) where
  -- an instruction's next position is behind it, so that the program goes on at later positions alone
  later : (at : ℕ) (f g : ℕ → Program) → ((q : ℕ) → at < q → q ≤ length s → f q ≡ g q) →
      (r : Result (Option (BinaryAnnotation × ℕ)) Refusal) → MovesOn s at r → on_next r f ≡ on_next r g
  later at f g h (Ok None) m = refl
  later at f g h (Ok (Some x)) m = ap (more x.0) (h x.1 m.0 m.1)
  later at f g h (Err e) m = refl

  pub program_by : (at : ℕ) → program_of s at ≡ on_next (annotation s at) (program_of s)
  unfolding program_from program_of
  program_by =
      unroll (length s) (λ k q. program_from k s q) (λ f q. on_next (annotation s q) f) (λ k q. refl)
      (λ q f g h. later q f g h (annotation s q) (moves_on s q refl))
