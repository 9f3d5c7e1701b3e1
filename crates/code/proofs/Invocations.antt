-- What reading the count of invocations gives.
-- Assumes nothing.
use Rattle.std.proofs.Common.{ℕ, ◌≡◌, refl, ap, arith, ◌+◌, ◌≤◌, Bool, true, false, cond, List, length, Option, None, Some, Result, Ok, Err}
use lib.Dec.{eqb, leb}
use borrow.Author.Tests.{leb-true}
use Rattle.common.specs.Bytes.{le}
use Rattle.common.specs.Reader.{◌>>=◌, next, done, number, runs_out, u32}
use Rattle.common.specs.declared.Refusal.{Refusal}
use Rattle.code.specs.Inline.{invocations}

-- what was read lies within the record
pub invocations_within : (kind : ℕ) (s : List ℕ) (at : ℕ) → at ≤ length s → {count : Option ℕ} {to : ℕ} → Ok (count, to) ≡ invocations kind s at → to ≤ length s
unfolding number
invocations_within kind s at h {count} {to} e = by_kind (eqb kind 0x115d) e
  where
    to_of : Result (Option ℕ × ℕ) Refusal → ℕ
    to_of (Ok r) = r.1
    to_of (Err e) = at

    by_room : (b : Bool) → leb (at + 4) (length s) ≡ b → Ok (count, to) ≡ next (λ n. done (Some n)) s (cond b (Ok (le 4 s at, at + 4)) (Err runs_out)) → to ≤ length s
    by_room true r q = let same : to ≡ at + 4 = ap to_of q in omega (arith, leb-true (at + 4) (length s) r)
    by_room false r q = cc

    by_kind : (b : Bool) → Ok (count, to) ≡ cond b (u32 >>= λ n. done (Some n)) (done None) s at → to ≤ length s
    by_kind true q = by_room (leb (at + 4) (length s)) refl q
    by_kind false q = let same : to ≡ at = ap to_of q in omega (arith, h)
