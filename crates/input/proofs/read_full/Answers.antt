-- `input::read_full` meets its contract.
use Rattle.std.proofs.Common.{◌≡◌, ℕ, ◌+◌, ◌-◌, ◌≤◌, List, ◌++◌, rules, length, take, sym, ap, ◌∙◌, subst, length-take-le}
use Rattle.std.specs.Io.KnownBytes.{Consumes}
use Rattle.std.proofs.KnownBytes.{Consumes-trans}
use borrow.Rule.Slice.PartMut.{put_mid, post_of}
use lib.Seq.{take-append-le, take-append-add}
use Rattle.input.proofs.read_full.Goals as goal

-- what stood before a part that was put in the middle, and behind it what was read into that part
take-put_mid_part : (a k n : ℕ) (xs ys : List ℕ) → a ≤ length xs → n ≤ length ys → take a xs ++ take n ys ≡ take (a + n) (put_mid a k xs ys)
take-put_mid_part a k n xs ys within fits =
    sym
    (ap (λ m. take (m + n) (put_mid a k xs ys)) (sym (length-take-le a xs within))
    ∙ take-append-add (take a xs) (ys ++ post_of a k xs) n
    ∙ ap (λ l. take a xs ++ l) (take-append-le n ys (post_of a k xs) fits))

pub loop-at-preserved : goal.loop-at-preserved
loop-at-preserved g c =
    let part = take-put_mid_part c.loop-at.at (length c.loop-at.bytes - c.loop-at.at) c.in_ok-n.n c.loop-at.bytes c.read.new.buf c.loop-at.invariant.fits c.in_ok-n.ensures.bound.0 in
    record {
      keeps = search rules;
      fits = search rules;
      next = subst (Consumes _ _) part (Consumes-trans _ _ _ _ _ c.loop-at.invariant.next c.in_ok-n.ensures.bytes.0);
    }
