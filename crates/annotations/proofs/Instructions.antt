-- A step that answers an instruction moves on and stays within the bytes, and the instruction has the code that was read.
-- Assumes nothing.
use Rattle.std.proofs.Common.{ℕ, ◌<◌, ◌≤◌, ◌≡◌, refl, arith, List, length, Bool, true, false, cond, eqb, ltb, Option, None, Some, Result, Ok, Err, IfOk, IfSome}
use Rattle.std.proofs.lemmas.Bool.{eqb-true}
use Rattle.common.specs.Reader.{Read, Reader, next, done, refuse}
use Rattle.common.specs.declared.Refusal.{Refusal}
use Rattle.annotations.specs.Compressed.{compressed}
use Rattle.annotations.specs.Annotation.{one, two, operands, instruction, found, annotation, MovesOn, code_of}
use Rattle.annotations.specs.declared.BinaryAnnotation.{BinaryAnnotation}
use Rattle.annotations.proofs.Numbers.{is_compressed}

-- What `operands` is at a code: no instruction, a refusal, or an instruction of that code, of one number or of two.
data Shape (code : ℕ) : Reader (Option BinaryAnnotation) → Type 0 where
  none : Shape code (done None)
  unknown : (e : Refusal) → Shape code (refuse e)
  of_one : (f : ℕ → BinaryAnnotation) → ((x : ℕ) → code_of (f x) ≡ code) → Shape code (one f)
  of_two : (f : ℕ → ℕ → BinaryAnnotation) → ((x y : ℕ) → code_of (f x y) ≡ code) → Shape code (two f)

if_code : (code n : ℕ) (x y : Reader (Option BinaryAnnotation)) → Shape n x → Shape code y → Shape code (cond (eqb code n) x y)
if_code code n x y p q = go (eqb code n) refl
  where
    go : (b : Bool) → eqb code n ≡ b → Shape code (cond b x y)
    go true e = rw (eqb-true code n e) p
    go false e = q

shape : (code : ℕ) → Shape code (operands code)
unfolding operands
shape code = search (if_code, none, unknown, of_one, of_two) depth 20

abbrev Answer : Type 0
Answer = Result (Option (BinaryAnnotation × ℕ)) Refusal

-- what is said of an instruction, where one is answered
abbrev OfInstruction : (BinaryAnnotation × ℕ → Type 0) → Answer → Type 0
OfInstruction P r = IfOk r (λ o. IfSome o P)

follows : (P Q : BinaryAnnotation × ℕ → Type 0) → ((x : BinaryAnnotation × ℕ) → P x → Q x) → (r : Answer) → OfInstruction P r → OfInstruction Q r
follows P Q h (Ok (Some x)) p = h x p
follows P Q h (Ok None) p = tt
follows P Q h (Err e) p = tt

module _ (s : List ℕ) where
  -- it has the code, moves on from the position and stays within the bytes
  abbrev Steps : ℕ → ℕ → BinaryAnnotation × ℕ → Type 0
  Steps code at x = (code_of x.0 ≡ code) × (at < x.1) × (x.1 ≤ length s)

  -- a number, and what it says is read behind it
  behind : (P : BinaryAnnotation × ℕ → Type 0) (at : ℕ) (f : ℕ → Reader (Option BinaryAnnotation)) →
      ((x to : ℕ) → at < to → to ≤ length s → OfInstruction P (found (f x s to))) → OfInstruction P (found (next f s (compressed s at)))
  behind P at f h = go (compressed s at) refl
    where
      go : (r : Read ℕ) → compressed s at ≡ r → OfInstruction P (found (next f s r))
      go (Ok r) e = let number = is_compressed s at r.0 r.1 e in h r.0 r.1 number.moves number.within
      go (Err refusal) e = tt

  one_steps : (code : ℕ) (f : ℕ → BinaryAnnotation) → ((x : ℕ) → code_of (f x) ≡ code) → (at : ℕ) → OfInstruction (Steps code at) (found (one f s at))
  one_steps code f h at = behind (Steps code at) at (λ x. done (Some (f x))) (λ x to moves within. (h x, moves, within))

  steps : (code at : ℕ) (m : Reader (Option BinaryAnnotation)) → Shape code m → OfInstruction (Steps code at) (found (m s at))
  steps code at m none = tt
  steps code at m (unknown e) = tt
  steps code at m (of_one f h) = one_steps code f h at
  steps code at m (of_two f h) =
      behind (Steps code at) at (λ x. one (f x)) (λ x to moves within.
      follows (Steps code to) (Steps code at) (λ y k. (k.0, omega (arith, moves, k.1), k.2)) (found (one (f x) s to)) (one_steps code (f x) (h x) to))

  -- an instruction that is read by a code has that code
  pub code_read : (code at : ℕ) → OfInstruction (λ x. code_of x.0 ≡ code) (found (operands code s at))
  code_read code at = follows (Steps code at) (λ x. code_of x.0 ≡ code) (λ x k. k.0) (found (operands code s at)) (steps code at (operands code) (shape code))

  pub moves_on : (at : ℕ) {r : Answer} → r ≡ annotation s at → MovesOn s at r
  unfolding annotation
  moves_on at e = rw e (go (ltb at (length s)))
    where
      go : (b : Bool) → MovesOn s at (cond b (found (instruction s at)) (Ok None))
      go true =
          behind (λ x. (at < x.1) × (x.1 ≤ length s)) at operands (λ code to moves within.
          follows (Steps code to) (λ x. (at < x.1) × (x.1 ≤ length s)) (λ x k. (omega (arith, moves, k.1), k.2)) (found (operands code s to))
          (steps code to (operands code) (shape code)))
      go false = tt
