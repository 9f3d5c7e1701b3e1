-- Flags that are folded into a word, the highest first.
-- Assumes nothing.
use Rattle.std.proofs.Common.{ℕ, zero, suc, ◌*◌, ◌%◌, ◌^◌, ◌≤◌, ◌<◌, ◌≡◌, refl, ◌∙◌, arith, Bool, true, false, List, [], ◌∷◌, length, reverse, bit_or}
use Rattle.std.specs.List.{fold}
use Rattle.std.specs.Int.Bits.{and_shifted}
use Rattle.std.proofs.lemmas.Nat.{or_disjoint, pow_pos}
use Rattle.std.proofs.lemmas.List.{reverse-append}
use Rattle.std.proofs.lemmas.List.Sums.{fold_push}
use Rattle.std.proofs.Math.Nat.{pow-suc}
use Rattle.words.specs.Word.{truth, bits}

-- one more flag, below those that the word has
abbrev pub onto : ℕ → Bool → ℕ
onto high low = bit_or (2 * high % 2 ^ 64) (truth low)

truth_below : (b : Bool) → truth b < 2
truth_below true = omega arith
truth_below false = omega arith

bits_below : (bs : List Bool) (n : ℕ) → length bs ≤ n → bits bs < 2 ^ n
bits_below [] n h = pow_pos n
bits_below (b ∷ bs) zero h = absurd (omega arith)
bits_below (b ∷ bs) (suc n) h = rw (pow-suc 2 n) (omega (arith, truth_below b, bits_below bs n (omega arith)))

onto_bits : (b : Bool) (bs : List Bool) → length bs ≤ 63 → onto (bits bs) b ≡ bits (b ∷ bs)
onto_bits b bs h =
    let whole : 2 * bits bs % 2 ^ 64 ≡ bits bs * 2 ^ 1 = omega (arith, bits_below bs 63 h) in
    rw whole (or_disjoint _ _ (and_shifted (bits bs) 1 (truth b) (truth_below b)) ∙ omega arith)

pub folded : (bs : List Bool) → length bs ≤ 64 → fold onto 0 (reverse bs) ≡ bits bs
folded [] h = refl
folded (b ∷ bs) h =
    let rest : fold onto 0 (reverse bs) ≡ bits bs = folded bs (omega arith) in
    rw (reverse-append (b ∷ []) bs, fold_push onto 0 (reverse bs) b, rest) (onto_bits b bs (omega arith))
