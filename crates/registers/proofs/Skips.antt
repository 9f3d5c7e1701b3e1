-- Passing the entries that are left: none, or one and then the others.
-- Assumes nothing.
use Rattle.std.proofs.Common.{ℕ, suc, ◌≡◌, ap, ◌+◌, ◌-◌, ◌<◌, ◌≤◌, arith}
use Rattle.common.specs.Reader.{◌>>=◌, done}
use Rattle.registers.specs.Entries.{entry, skip}

pub none_left : (kind n k : ℕ) → n ≤ k → skip kind (n - k) ≡ done tt
unfolding skip
none_left kind n k h = let e : n - k ≡ 0 = omega arith in ap (skip kind) e

pub one_more : (kind n k : ℕ) → k < n → skip kind (n - k) ≡ (entry kind >>= λ _. skip kind (n - (k + 1)))
unfolding skip
one_more kind n k h = let e : n - k ≡ suc (n - (k + 1)) = omega arith in ap (skip kind) e
