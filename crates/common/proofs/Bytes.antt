-- Numbers in a list of bytes: on what they depend, and what becomes of them where bytes are put in the place of others.
-- Assumes nothing.
use Rattle.std.proofs.Common.{ℕ, zero, suc, ◌+◌, ◌^◌, ◌≤◌, ◌<◌, ◌≡◌, refl, sym, ap, ◌∙◌, arith, List, ◌++◌, append_assoc, length, take, drop, get_or}
use lib.Seq.{take-append_seam, take-append-add, drop-append-add}
use Rattle.std.specs.Int.{w32, to_le_bytes}
use Rattle.std.proofs.lemmas.Grind.{common_steps}
use Rattle.std.proofs.lemmas.List.{get_or-append-add, get_or_append_left, get_or-take, get_or-drop, length-take, length-take-le, length-drop, length-append, drop-drop, drop_at, take_at, take-append-le, drop-append-le, take-append-drop}
use Rattle.std.proofs.lemmas.Slice.{drop-put_mid}
use Rattle.std.proofs.lemmas.Nat.{from_le_bytes-to_le_bytes_4}
use Rattle.common.specs.Bytes.{le, be, put, put_u32}

-- a number that stands behind some bytes does not depend on them
pub be_behind : (n : ℕ) (before s : List ℕ) (at : ℕ) → be n (before ++ s) (length before + at) ≡ be n s at
unfolding be
be_behind zero before s at = refl
be_behind (suc n) before s at = grind (arith, get_or-append-add before s at 0, be_behind n before s (suc at))

-- a number by the bytes from its position on
pub le_drop : (n at : ℕ) (s : List ℕ) → le n s at ≡ le n (drop at s) 0
unfolding le
le_drop n at s = by n 0 at (omega arith)
  where
    by : (n i j : ℕ) → j ≡ at + i → le n s j ≡ le n (drop at s) i
    by zero i j e = refl
    by (suc n) i j e = grind (arith, get_or-drop at s i 0, by n (suc i) (suc j), e)

-- bytes put in the place of others: their own place, those before and those behind
module _ (at : ℕ) (xs s : List ℕ) where
  put_is : put at xs s ≡ take at s ++ (xs ++ drop (at + length xs) s)
  unfolding put
  put_is = append_assoc (take at s) xs _

  pub length_put : at + length xs ≤ length s → length (put at xs s) ≡ length s
  length_put fits = rw put_is (simp (length-append, length-take, length-drop) (omega arith))

  module _ (within : at ≤ length s) where
    drop_put_here : drop at (put at xs s) ≡ xs ++ drop (at + length xs) s
    drop_put_here = rw put_is (drop_at (take at s) _ at (length-take-le at s within))

    pub drop_put : (k : ℕ) → at + length xs ≤ k → drop k (put at xs s) ≡ drop k s
    drop_put k behind = rw (put_is, ← drop-drop (length xs) at s) (drop-put_mid at (length xs) s xs k behind within refl)

    pub le_behind_put : (n k : ℕ) → at + length xs ≤ k → le n (put at xs s) k ≡ le n s k
    le_behind_put n k behind = le_drop n k (put at xs s) ∙ ap (λ (x : List ℕ). le n x 0) (drop_put k behind) ∙ sym (le_drop n k s)

    get_or_before_put : (k : ℕ) → k < at → get_or (put at xs s) k 0 ≡ get_or s k 0
    get_or_before_put k before =
        rw put_is (get_or_append_left (take at s) _ 0 k (omega (arith, length-take-le at s within)) ∙ get_or-take at s k 0 before)

    pub le_before_put : (n k : ℕ) → k + n ≤ at → le n (put at xs s) k ≡ le n s k
    unfolding le
    le_before_put zero k before = refl
    le_before_put (suc n) k before = grind (arith, get_or_before_put k (omega arith), le_before_put n (suc k) (omega arith))

-- bytes stand at a place
abbrev pub There : ℕ → List ℕ → List ℕ → Type 0
There at xs s = take (length xs) (drop at s) ≡ xs

module _ (at : ℕ) (xs s : List ℕ) where
  -- put there, they change nothing
  pub put_there : There at xs s → put at xs s ≡ s
  put_there there =
      put_is at xs s
      ∙ ap (λ rest. take at s ++ rest) ((λ i. sym there i ++ sym (drop-drop (length xs) at s) i) ∙ take-append-drop (length xs) (drop at s))
      ∙ take-append-drop at s

  -- they do once they were put there, and go on where others are put before or behind
  pub there_put : at ≤ length s → There at xs (put at xs s)
  there_put within = ap (take (length xs)) (drop_put_here at xs s within) ∙ take_at xs (drop (at + length xs) s) (length xs) refl

  module _ (to : ℕ) (ys : List ℕ) (within : to ≤ length s) (there : There at xs s) where
    pub there_behind : to + length ys ≤ at → There at xs (put to ys s)
    there_behind behind = ap (take (length xs)) (drop_put to ys s within at behind) ∙ there

    pub there_before : at + length xs ≤ to → There at xs (put to ys s)
    there_before before =
        let long : length (take to s) ≡ to = length-take-le to s within in
        let front = λ (rest : List ℕ).
        ap (take (length xs)) (drop-append-le at (take to s) rest (omega (arith, long)))
        ∙ take-append-le (length xs) (drop at (take to s)) rest (omega (arith, long, length-drop at (take to s))) in
        ap (λ x. take (length xs) (drop at x)) (put_is to ys s)
        ∙ front (ys ++ drop (to + length ys) s)
        ∙ sym (front (drop to s))
        ∙ ap (λ x. take (length xs) (drop at x)) (take-append-drop to s)
        ∙ there

pub le_put_u32 : (at x : ℕ) (s : List ℕ) → at ≤ length s → x < 2 ^ 32 → le 4 (put_u32 at x s) at ≡ x
unfolding le
le_put_u32 at x s within fits =
    le_drop 4 at (put_u32 at x s) ∙ rw (drop_put_here at (to_le_bytes w32 x) s within) (omega (arith, from_le_bytes-to_le_bytes_4 x fits))

-- bytes put where a list ends that stands in front of what is left of another; put behind a list; put within it
pub put_at_end : (out xs old : List ℕ) {n : ℕ} → length out ≡ n → put n xs (out ++ drop n old) ≡ (out ++ xs) ++ drop (n + length xs) old
unfolding put
put_at_end out xs old {n} e =
    rw (sym e, take-append_seam out (drop (length out) old), drop-append-add out (drop (length out) old) (length xs), drop-drop (length xs) (length out) old) refl

pub put_behind : (out xs bytes : List ℕ) (at : ℕ) {n : ℕ} → length out ≡ n → put (n + at) xs (out ++ bytes) ≡ out ++ put at xs bytes
unfolding put
put_behind out xs bytes at {n} e =
    let on : length out + at + length xs ≡ length out + (at + length xs) = omega arith in
    rw (sym e, on, take-append-add out bytes at, drop-append-add out bytes (at + length xs)) (simp append_assoc)

pub put_before : (out xs bytes : List ℕ) (at : ℕ) → at + length xs ≤ length out → put at xs (out ++ bytes) ≡ put at xs out ++ bytes
unfolding put
put_before out xs bytes at fits = grind (arith, common_steps)
