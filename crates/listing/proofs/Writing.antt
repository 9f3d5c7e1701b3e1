-- Piece behind piece.
-- Assumes nothing.
use Rattle.std.proofs.Common.{ℕ, ◌+◌, ◌≡◌, List, ◌++◌, length, take, drop, sym, ap, ◌∙◌, arith, length-append, append_assoc}
use Rattle.std.proofs.Math.Seq.{drop-drop}
use Rattle.std.proofs.lemmas.Grind.{common_steps}
use Rattle.listing.specs.Puts.{Puts, Writes}
use Rattle.listing.specs.declared.text.Text.{Text}

-- what stands before the end of a text that was put, and behind it
module _ (xs a b : List ℕ) (at m : ℕ) (p : Puts xs at a b m) where
  front : take m b ≡ take at a ++ xs
  front = grind (arith, common_steps, p)

  end : drop m b ≡ drop m a
  end = grind (arith, common_steps, p)

  behind : (n : ℕ) → drop (m + n) b ≡ drop (m + n) a
  behind n = sym (drop-drop n m b) ∙ ap (drop n) end ∙ drop-drop n m a

-- one text behind another
pub both : (xs ys a b c : List ℕ) (at m to : ℕ) → Puts xs at a b m → Puts ys m b c to → Puts (xs ++ ys) at a c to
both xs ys a b c at m to p q =
    let rest : drop to b ≡ drop to a = rw q.ends (behind xs a b at m p (length ys)) in
    record {
      ends = omega (arith, p.ends, q.ends, length-append xs ys);
      bytes =
          q.bytes
          ∙ ap (λ l. l ++ ys ++ drop to b) (front xs a b at m p)
          ∙ ap (λ l. l ++ drop to b) (append_assoc (take at a) xs ys)
          ∙ ap (λ l. take at a ++ (xs ++ ys) ++ l) rest;
    }

pub then_lem : {xs ys : List ℕ} {r s t : Text} → Writes xs r s → Writes ys s t → Writes (xs ++ ys) r t
then_lem p q = record { puts = both _ _ _ _ _ _ _ _ p.puts q.puts; same = q.same ∙ p.same }
