-- Steps over the squeezed stream yield the records one behind the other, their links moved, and nothing is passed over behind the first.
-- Assumes nothing.
use Rattle.std.proofs.Common.{ℕ, ◌+◌, ◌≤◌, ◌<◌, ◌^◌, ◌≡◌, refl, sym, ap, ◌∙◌, subst, arith, List, [], ◌∷◌, ◌++◌, length, take, drop, map, length-append, length-take-le, length-drop, drop_at, append_assoc, add-zero, take-take, eqb, ◌⊎◌, inl, inr, Option, Result, Ok, Err}
use Rattle.std.proofs.lemmas.Grind.{common_steps}
use Rattle.std.proofs.lemmas.List.{take-append-le}
use Rattle.constants.specs.Kind.{is_filler}
use Rattle.iter.specs.Step.{scan_of}
use Rattle.iter.specs.Reading.{Rec, Reading, rec_at, read_of}
use Rattle.common.specs.declared.Refusal.{Refusal}
use Rattle.iter.specs.declared.Next.{Next}
use Rattle.iter.specs.declared.Record.{Record}
use Rattle.iter.specs.declared.Next.TheVariants as N
use Rattle.iter.proofs.Reading.{step_fits, own, read_by}
use Rattle.iter.proofs.Records.{le_part, bytes-length, Rising, rising}
use Rattle.iter.proofs.Rows.{Whole, Wholes, wholes, Piece, Sound, Sounds, laid, to_end, read_kept}
use Rattle.iter.proofs.Rows as R
use Rattle.check_nesting.specs.Check.{size}
use Rattle.squeezing.specs.Squeeze.{lands_from, first_in, first_of, moved_link, moved, row, squeezed_from, squeezed}
use Rattle.squeezing.specs.Squeezes.{NoFillers}
use Rattle.squeezing.proofs.Landings.{lands_within}
use Rattle.squeezing.proofs.Moved.{moved_length, moved_number}

module _ (s : List ℕ) (to : ℕ → Option ℕ) where
  -- the records as they are written
  abbrev pub piece : Rec → Piece
  piece r = record { head = take 2 (drop r.index s); body = moved to r.bytes }

  abbrev pub pieces : List Rec → List Piece
  pieces = map piece

  row_is : (rs : List Rec) → row s to rs ≡ R.row (pieces rs)
  unfolding row
  row_is [] = refl
  row_is (r ∷ rs) = rw (row_is rs) (append_assoc (take 2 (drop r.index s)) (moved to r.bytes) (R.row (pieces rs)))

  pub sound : {r : Rec} → Whole s r → Sound (piece r)
  sound {r} w =
      record {
        two = length-take-le 2 (drop r.index s) (simp length-drop (omega (arith, w.fits)));
        len_is = le_part 2 s r.index 2 0 (omega arith) ∙ rw (add-zero r.index) (w.fits.len_is ∙ sym (moved_length to r.bytes));
        least = omega (arith, moved_length to r.bytes, w.fits);
        kept = ap is_filler (moved_number to r.bytes w.fits.least) ∙ w.kept;
      }

  sounds : (rs : List Rec) → Wholes s rs → Sounds (pieces rs)
  sounds [] w = tt
  sounds (r ∷ rs) w = (sound w.0, sounds rs w.1)

  -- it is no longer than the stream
  row_within : (rs : List Rec) (p : ℕ) → p ≤ length s → Rising p rs → Wholes s rs → p + length (R.row (pieces rs)) ≤ length s
  row_within [] p h ri w = omega arith
  row_within (r ∷ rs) p h ri w =
      simp length-append
      (omega (arith, moved_length to r.bytes, sound w.0, row_within rs (r.index + 2 + length r.bytes) w.0.fits.within ri.1 w.1))

-- Records where they land, from a position on, at 0 exactly where they were there, with their links moved.
pub data Landed (to : ℕ → Option ℕ) : ℕ → List Rec → List Rec → Type 0 where
  none : {at : ℕ} → Landed to at [] []
  both : {at : ℕ} {r t : Rec} {rs ts : List Rec} → t.index ≡ at → eqb r.index 0 ≡ eqb t.index 0 → t.bytes ≡ moved to r.bytes →
      Landed to (at + size r) rs ts → Landed to at (r ∷ rs) (t ∷ ts)

landed_behind : (s : List ℕ) (to : ℕ → Option ℕ) (r : Rec) (rs : List Rec) (at : ℕ) → Rising (r.index + 2 + length r.bytes) rs →
    Landed to (at + size r) rs (laid (at + 2 + length (moved to r.bytes)) (pieces s to rs))
landed_behind s to r [] at ri = none
landed_behind s to r (q ∷ rs) at ri =
    let here : at + 2 + length (moved to r.bytes) ≡ at + size r = omega (arith, moved_length to r.bytes) in
    both here (grind (arith, common_steps, ri.0)) refl (rw here (landed_behind s to q rs (at + size r) ri.1))

no_fillers_laid : (fs : List Piece) (at : ℕ) → NoFillers (laid at fs)
no_fillers_laid [] at = tt
no_fillers_laid (f ∷ fs) at = (refl, no_fillers_laid fs (at + 2 + length f.body))

-- The readings of a stream whose records are r and rs, and of the squeezed one.
pub record Readings (s : List ℕ) (start : ℕ) (t : List ℕ) : Type 0 where
  pub r : Rec
  pub rs : List Rec
  pub first : Rec
  pub others : List Rec
  pub records : (read_of s start).recs ≡ r ∷ rs
  pub read : read_of t start ≡ to_end (first ∷ others)
  pub landed : Landed (lands_from r.index (r ∷ rs)) r.index (r ∷ rs) (first ∷ others)
  pub front : first.fillers ≡ (scan_of s start).fillers
  pub no_fillers : NoFillers others
  pub small : (x : ℕ) → moved_link (lands_from r.index (r ∷ rs)) x < 2 ^ 32
  pub before : take start t ≡ take start s
  pub wholes : Wholes s (r ∷ rs)
  pub left : drop r.index t ≡ R.row (pieces s (lands_from r.index (r ∷ rs)) (r ∷ rs))

squeezed_readings : (s : List ℕ) (start : ℕ) {it : Record} → (scan_of s start).step ≡ Ok (N.Record it) → Readings s start (squeezed s start)
unfolding squeezed squeezed_from first_of
squeezed_readings s start {it} e =
    let r = rec_at s (scan_of s start) it in
    let rs = (read_of s it.next).recs in
    let to = lands_from r.index (r ∷ rs) in
    let y = step_fits s start it e in
    let records : (read_of s start).recs ≡ r ∷ rs = ap (λ (x : Reading). x.recs) (read_by s start (Ok (N.Record it)) e) in
    let w : Wholes s (r ∷ rs) = subst (Wholes s) records (wholes s start) in
    let ri : Rising it.index (r ∷ rs) = (omega arith, (subst (Rising start) records (rising s start)).1) in
    let is : squeezed s start ≡ take it.index s ++ R.row (pieces s to (r ∷ rs)) = (λ i. squeezed_from s (first_in s (records i)) (records i)) ∙ rw (row_is s to (r ∷ rs)) in
    let front : length (take it.index s) ≡ it.index = length-take-le it.index s (omega arith) in
    let long : length (squeezed s start) ≤ length s = rw (is, length-append, front) (row_within s to (r ∷ rs) it.index (omega arith) ri w) in
    record {
      r = r;
      rs = rs;
      first = _;
      others = _;
      records = records;
      read =
          read_kept s (squeezed s start) start it e _ _ (sounds s to (r ∷ rs) w) is
          (moved_number to r.bytes w.0.fits.least ∙ sym w.0.fits.kind_is ∙ (own s start it e).fits.kind_is)
          (moved_length to r.bytes ∙ bytes-length s start it e)
          (omega (arith, y, long));
      landed = both refl refl refl (landed_behind s to r rs it.index ri.1);
      front = refl;
      no_fillers = no_fillers_laid _ _;
      small = λ x. grind (arith, common_steps, lands_within s (r ∷ rs) it.index it.index x ri w (omega arith) (omega arith), y);
      wholes = w;
      left = ap (drop it.index) is ∙ drop_at (take it.index s) _ it.index front;
      before = ap (take start) is ∙ take-append-le start (take it.index s) _ (omega arith) ∙ take-take start it.index s (omega arith);
    }

-- a stream has a first record, or yields none
pub read_or_none : (s : List ℕ) (start : ℕ) → Readings s start (squeezed s start) ⊎ ((read_of s start).recs ≡ [])
read_or_none s start = by (scan_of s start).step refl
  where
    by : (n : Result Next Refusal) → (scan_of s start).step ≡ n → Readings s start (squeezed s start) ⊎ ((read_of s start).recs ≡ [])
    by (Ok (N.Record it)) e = inl (squeezed_readings s start e)
    by (Ok (N.End p)) e = inr (ap (λ (x : Reading). x.recs) (read_by s start (Ok (N.End p)) e))
    by (Err x) e = inr (ap (λ (y : Reading). y.recs) (read_by s start (Err x) e))
