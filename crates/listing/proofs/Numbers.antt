-- How long numbers are as text.
-- Assumes nothing.
use Rattle.std.proofs.Common.{ℕ, ◌-◌, ◌^◌, ◌≤◌, ◌<◌, ◌≡◌, arith}
use Rattle.std.proofs.Math.Nat.{pow-le-pow_right}
use Rattle.io.specs.Digits.{IsDigitCount}

-- a kind has four hexadecimal digits
pub four_digits : {n k : ℕ} → IsDigitCount 16 4 n k → n < 2 ^ 16 → k ≡ 4
four_digits {n} {k} f h = omega (arith, f, no_more)
  where
    no_more : 4 < k → ⊥
    no_more over =
        let p : 16 ^ (k - 1) ≤ n = f.2 over in
        let q : 16 ^ 4 ≤ 16 ^ (k - 1) = pow-le-pow_right (omega arith) {i = 4} {j = k - 1} (omega arith) in
        omega arith
