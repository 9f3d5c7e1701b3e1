-- One more word stored behind those that are written.
-- Assumes nothing.
use Rattle.std.proofs.Common.{ℕ, ◌+◌, ◌<◌, ◌≡◌, ◌∙◌, arith, List, [], ◌∷◌, ◌++◌, length, take}
use Rattle.std.proofs.Math.ListN.{get_or, set}
use Rattle.std.proofs.Math.Numerals.{add-one}
use Rattle.std.proofs.Math.Seq.{set-append_seam, take-suc, drop-cons}
use Rattle.std.proofs.lemmas.List.{length-take, length-append, append_assoc}
use Rattle.words.specs.Written.{written}

written_more : (ws b : List ℕ) (n x : ℕ) → n ≡ length ws → n < length b → set (written ws b) n x ≡ written (ws ++ x ∷ []) b
unfolding written
written_more ws b n x e h =
    rw (e, drop-cons b (length ws) 0 (omega arith)) (set-append_seam ws _ _ x ∙ simp (append_assoc, length-append, add-one))

pub place_more : (c d : ℕ) (ps b : List ℕ) (k : ℕ) → k < length ps → 2 + k < length b →
    set (written (c ∷ d ∷ take k ps) b) (2 + k) (get_or ps k 0) ≡ written (c ∷ d ∷ take (k + 1) ps) b
place_more c d ps b k h l =
    rw (add-one, take-suc ps k 0 h) (written_more (c ∷ d ∷ take k ps) b (2 + k) _ (simp length-take (omega arith)) l)
