-- The invariant of a finder's loop, for the walk finder and the jump finder alike.
-- Assumes nothing.
use Rattle.std.proofs.Common.{ℕ, ◌+◌, ◌-◌, ◌≤◌, ◌≡◌, refl, sym, ◌∙◌, ap, List, [], ◌∷◌, ◌++◌, length, reverse, Ok, arith}
use Rattle.std.proofs.lemmas.List.{reverse-append, reverse-reverse}
use Rattle.iter.specs.Step.{scan_of, step_of}
use Rattle.iter.specs.Reading.{Rec, rec_at}
use Rattle.iter.specs.declared.Next.{Next}
use Rattle.iter.specs.declared.Record.{Record}
use Rattle.iter.specs.declared.Next.TheVariants as N
use Rattle.iter.proofs.Reading.{Stepped, step_fits}
use Rattle.iter.proofs.Steps.{record_of}
use Rattle.chain.specs.Finding.{Search, seen, found_at, answer_of, finding_of}

-- F is the search from a position of the stream with a stack. The search from the start ends as the one from here does, with the stack that
-- the chain lists, and with the records read so far before its own.
pub record Going (F : ℕ → List ℕ → Search) (s : List ℕ) (start : ℕ) (chain : List ℕ) (at read : ℕ) : Type 0 where
  pub outs : (F start []).out ≡ (F at (reverse chain)).out
  pub counts : length (F start []).visited ≡ read + length (F at (reverse chain)).visited
  pub few : read + (length s - at) ≤ length s

module _ {F : ℕ → List ℕ → Search} {s : List ℕ} {start : ℕ} {chain : List ℕ} {at read : ℕ} (g : Going F s start chain at read) where
  -- the answer, where the search that is left is w
  pub ends : {w : Search} → F at (reverse chain) ≡ w → answer_of w.out (read + length w.visited) ≡ finding_of (F start [])
  ends e = rw (g.outs, g.counts, e)

  -- on to a later position, with another chain, m records further
  pub onward : (q m : ℕ) (ch : List ℕ) → at + m ≤ q → q ≤ length s →
      {w : Search} → F at (reverse chain) ≡ w → w.out ≡ (F q (reverse ch)).out → length w.visited ≡ m + length (F q (reverse ch)).visited →
      Going F s start ch q (read + m)
  onward q m ch a b {w} l eo ev =
      let v : length (F at (reverse chain)).visited ≡ m + length (F q (reverse ch)).visited = ap (λ (x : Search). length x.visited) l ∙ ev in
      record { outs = g.outs ∙ ap (λ (x : Search). x.out) l ∙ eo; counts = omega (arith, g.counts, v); few = omega (arith, g.few) }

-- a turn of the loop, at a record that the step yields
pub record AtRecord (F : ℕ → List ℕ → Search) (s : List ℕ) (start : ℕ) (chain : List ℕ) (at read : ℕ) (it : Record) : Type 0 where
  pub going : Going F s start chain at read
  pub yields : (scan_of s at).step ≡ Ok (N.Record it)
  pub fits : Stepped s at it

pub at_record : {F : ℕ → List ℕ → Search} {s : List ℕ} {start : ℕ} {chain : List ℕ} {at read : ℕ} {n : Next} {it : Record} →
    Going F s start chain at read → Ok n ≡ step_of s at → n ≡ N.Record it → AtRecord F s start chain at read it
at_record {s = s} {at = at} {it = it} g e f =
    let h = record_of s at e f in
    record { going = g; yields = h; fits = step_fits s at it h }

module _ {F : ℕ → List ℕ → Search} {s : List ℕ} {start : ℕ} {chain : List ℕ} {at read : ℕ} {it : Record}
    (y : AtRecord F s start chain at read it) where
  abbrev r : Rec
  r = rec_at s (scan_of s at) it

  -- with another chain, behind that record
  pub turned : (ch : List ℕ) → F at (reverse chain) ≡ seen r (F it.next (reverse ch)) → Going F s start ch it.next (read + 1)
  turned ch l = onward y.going it.next 1 ch (omega (arith, y.fits)) (omega (arith, y.fits)) l refl (omega arith)

  -- with that record's index behind the others
  pub pushed : {ch : List ℕ} → ch ≡ chain ++ it.index ∷ [] → F at (reverse chain) ≡ seen r (F it.next (it.index ∷ reverse chain)) → Going F s start ch it.next (read + 1)
  pushed {ch} c l = turned ch (rw (c, reverse-append chain (it.index ∷ [])) l)

  -- the answer, where that record is the one asked for
  pub found : F at (reverse chain) ≡ found_at r (reverse chain) → Ok (record { chain = chain; count = read + 1 }) ≡ finding_of (F start [])
  found l = rw (sym (reverse-reverse chain)) (ends y.going l)
