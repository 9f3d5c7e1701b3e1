-- A value as a 64-bit word.
use Rattle.std.specs.Prelude.{ℕ, suc, ◌+◌, ◌*◌, ◌-◌, ◌^◌, List, [], ◌∷◌, Bool, cond, ℤ, pos, negsuc}

-- 1 for true, 0 for false
abbrev pub truth : Bool → ℕ
truth b = cond b 1 0

-- a bit for each flag, the lowest first
abbrev pub bits : List Bool → ℕ
bits [] = 0
bits (b ∷ bs) = truth b + 2 * bits bs

-- a signed number in two's complement; `negsuc n` is -(n + 1)
abbrev pub signed_word : ℤ → ℕ
signed_word (pos n) = n
signed_word (negsuc n) = 2 ^ 64 - suc n
