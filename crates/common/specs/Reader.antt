-- Readers, in which the layouts are written: a reader takes the bytes and a position and gives a value and the position after it, or refuses.
use Rattle.std.specs.Prelude.{ℕ, ◌+◌, ◌*◌, List, cond, length, leb, ℤ, Result, Ok, Err}
use Rattle.common.specs.Bytes.{le, signed}
use Rattle.common.specs.declared.Refusal.{Refusal}
use Rattle.common.specs.declared.Refusal.TheVariants.{UnexpectedEof}

abbrev pub Read : Type 0 → Type 0
Read A = Result (A × ℕ) Refusal

abbrev pub Reader : Type 0 → Type 0
Reader A = List ℕ → ℕ → Read A

-- 1: bytes run out
abbrev pub runs_out : Refusal
runs_out = UnexpectedEof 0

abbrev pub done : {A : Type 0} → A → Reader A
done a s at = Ok (a, at)

abbrev pub refuse : {A : Type 0} → Refusal → Reader A
refuse e s at = Err e

-- one reader after another: the first that refuses decides
abbrev pub next : {A B : Type 0} → (A → Reader B) → List ℕ → Read A → Read B
next f s (Ok r) = f r.0 s r.1
next f s (Err e) = Err e

infixl 1 ◌>>=◌
abbrev pub ◌>>=◌ : {A B : Type 0} → Reader A → (A → Reader B) → Reader B
(m >>= f) s at = next f s (m s at)

-- a number of n bytes, as `of` takes them; too few bytes, or a read at the end, is 1
unfoldable pub number : {A : Type 0} → ℕ → (ℕ → A) → Reader A
number n of s at = cond (leb (at + n) (length s)) (Ok (of (le n s at), at + n)) (Err runs_out)

-- an unsigned number of n bytes
abbrev pub uint : ℕ → Reader ℕ
uint n = number n (λ x. x)

-- a signed number of n bytes
abbrev pub sint : ℕ → Reader ℤ
sint n = number n (signed (8 * n))

abbrev pub u8 : Reader ℕ
u8 = uint 1

abbrev pub u16 : Reader ℕ
u16 = uint 2

abbrev pub u32 : Reader ℕ
u32 = uint 4

abbrev pub i32 : Reader ℤ
i32 = sint 4
