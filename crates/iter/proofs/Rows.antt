-- What steps yield of records laid one behind the other.
-- Assumes nothing.
use Rattle.std.proofs.Common.{ℕ, zero, suc, ◌+◌, ◌≤◌, ◌<◌, ◌≡◌, refl, sym, ap, ◌∙◌, subst, arith, List, [], ◌∷◌, ◌++◌, length, take, drop, length-append, length-drop, length-take-le, drop-drop, drop_at, take_at, ◌-◌, true, false, Some, Ok}
use Rattle.std.proofs.lemmas.Grind.{common_steps}
use Rattle.common.specs.Bytes.{le}
use Rattle.constants.specs.Kind.{is_filler}
use Rattle.iter.specs.Reading.{Rec, ends, Reading, bytes_at, rec_at, read_of}
use Rattle.iter.specs.Step.{frame_at, plain, framed, pass_over, scan_from, scan_of}
use Rattle.iter.specs.declared.Frame.{Frame}
use Rattle.iter.specs.declared.Record.{Record}
use Rattle.iter.specs.declared.Scan.{Scan}
use Rattle.iter.specs.declared.Next.TheVariants as N
use Rattle.iter.proofs.Laws.{Fits, scan-ind}
use Rattle.iter.proofs.Reading.{own, step_fits, read_by}
use Rattle.iter.proofs.Records.{le_part, read-ind, bytes-length}

-- where a frame fits, it is read, and a step yields its record unless that is a filler
frame_there : (t : List ℕ) (p : ℕ) (f : Frame) → Fits t p f → frame_at t p ≡ Ok (Some f)
unfolding frame_at
frame_there t p f w = grind (arith, common_steps, w)

scan_there : (t : List ℕ) (p : ℕ) (f : Frame) → Fits t p f → is_filler f.kind ≡ false → length t ≤ 4294967295 →
    scan_of t p ≡ plain (Ok (N.Record (framed p f)))
unfolding scan_of scan_from
scan_there t p f w k small = grind (arith, common_steps, w, frame_there t p f w)

scan_inside : (s : List ℕ) (at : ℕ) → at < length s → length s ≤ 4294967295 → scan_of s at ≡ scan_from (suc (length s)) s at
unfolding scan_of
scan_inside s at h small = grind (arith, common_steps)

-- two streams that are the same up to m
le_alike : (s t : List ℕ) (m p : ℕ) → take m t ≡ take m s → p + 2 ≤ m → le 2 t p ≡ le 2 s p
le_alike s t m p same h = grind (arith, same, le_part 2 s 0 m p, le_part 2 t 0 m p)

fits_alike : (s t : List ℕ) (m p : ℕ) (f : Frame) → take m t ≡ take m s → p + 4 ≤ m → p + 2 + f.len ≤ length t → Fits s p f → Fits t p f
fits_alike s t m p f same h within w =
    record {
      within = within;
      least = w.least;
      len_is = le_alike s t m p same (omega arith) ∙ w.len_is;
      kind_is = le_alike s t m (p + 2) same (omega arith) ∙ w.kind_is;
    }

-- the frame of a record that a step yields
abbrev pub frame_of : Record → Frame
frame_of it = record { kind = it.kind; len = it.len }

-- A step is made alike in two streams that are the same up to the record that it yields, where a frame of its kind and length stands in both.
module _ (s t : List ℕ) (at : ℕ) (it : Record) (e : (scan_of s at).step ≡ Ok (N.Record it)) (same : take it.index t ≡ take it.index s)
    (in_t : Fits t it.index (frame_of it))
  where
    -- with enough fuel t is scanned so from p too, if that yields the record
    abbrev Alike : ℕ → Scan → Type 0
    Alike p c = c.step ≡ Ok (N.Record it) → (p ≤ it.index) × ((k : ℕ) → length t ≤ p + k → scan_from (suc k) t p ≡ c)

    record_alike : (p : ℕ) (f : Frame) → is_filler f.kind ≡ false → Alike p (plain (Ok (N.Record (framed p f))))
    unfolding scan_from
    record_alike p f k d =
        let is : framed p f ≡ it = cc in
        let here : p ≡ it.index = ap (λ r. r.index) is in
        let there : Fits t p f = subst (λ r. Fits t r.index (frame_of r)) (sym is) in_t in
        (omega arith, λ j h. rw (frame_there t p f there, k))

    filler_alike : (p : ℕ) (f : Frame) (c : Scan) → Fits s p f → is_filler f.kind ≡ true → Alike (p + 2 + f.len) c → Alike p (pass_over f.len c)
    unfolding scan_from
    filler_alike p f c w k ih d = (omega (arith, (ih d).0), go (ih d).0)
      where
        go : p + 2 + f.len ≤ it.index → (j : ℕ) → length t ≤ p + j → scan_from (suc j) t p ≡ pass_over f.len c
        go b zero h = absurd (omega (arith, in_t))
        go b (suc j) h = rw (frame_there t p f (fits_alike s t it.index p f same (omega (arith, w)) (omega (arith, in_t)) w), k, (ih d).1 j (omega arith))

    scan_kept : length t ≤ 4294967295 → scan_of t at ≡ scan_of s at
    scan_kept small =
        let y = step_fits s at it e in
        let here = scan_inside s at (omega arith) y.small in
        let alike = scan-ind s Alike (λ p e d. cc) (λ p x h d. cc) (λ p f w _. record_alike p f) filler_alike (suc (length s)) at (omega arith) (omega arith) in
        let on = alike (ap (λ c. c.step) (sym here) ∙ e) in
        scan_inside t at (omega arith) small ∙ on.1 (length t) (omega arith) ∙ sym here

-- the frame of a record's bytes
abbrev pub frame_of_bytes : List ℕ → Frame
frame_of_bytes bytes = record { kind = le 2 bytes 0; len = length bytes }

-- the record of a reading is no filler, and stands in the stream with its frame
pub record Whole (s : List ℕ) (r : Rec) : Type 0 where
  pub fits : Fits s r.index (frame_of_bytes r.bytes)
  pub kept : is_filler (le 2 r.bytes 0) ≡ false

abbrev pub Wholes : List ℕ → List Rec → Type 0
Wholes s [] = Unit
Wholes s (r ∷ rs) = Whole s r × Wholes s rs

whole : (s : List ℕ) (at : ℕ) (it : Record) → (scan_of s at).step ≡ Ok (N.Record it) → Whole s (rec_at s (scan_of s at) it)
whole s at it e =
    let o = own s at it e in
    let long = bytes-length s at it e in
    let kind : le 2 (bytes_at s it) 0 ≡ it.kind = grind (arith, le_part 2 s it.start it.len 0, o) in
    record { fits = rw (kind, long) o.fits; kept = rw kind o.kept }

pub wholes : (s : List ℕ) (at : ℕ) → Wholes s (read_of s at).recs
wholes s = read-ind s (λ at r. Wholes s r.recs) (λ at q e. tt) (λ at x e. tt) (λ at it e ih. (whole s at it e, ih))

-- A record as it is written: its length field and its bytes.
pub record Piece : Type 0 where
  pub head : List ℕ
  pub body : List ℕ

-- its length field says its length, and it is a record that a step yields
pub record Sound (f : Piece) : Type 0 where
  pub two : length f.head ≡ 2
  pub len_is : le 2 f.head 0 ≡ length f.body
  pub least : 2 ≤ length f.body
  pub kept : is_filler (le 2 f.body 0) ≡ false

abbrev pub Sounds : List Piece → Type 0
Sounds [] = Unit
Sounds (f ∷ fs) = Sound f × Sounds fs

-- pieces one behind the other, and what is read of them
abbrev pub row : List Piece → List ℕ
row [] = []
row (f ∷ fs) = f.head ++ (f.body ++ row fs)

abbrev pub laid : ℕ → List Piece → List Rec
laid at [] = []
laid at (f ∷ fs) = record { index = at; bytes = f.body; fillers = 0; filler_bytes = 0 } ∷ laid (at + 2 + length f.body) fs

-- a reading that ends at the end of the stream, with nothing passed over behind the last record
abbrev pub to_end : List Rec → Reading
to_end rs = record { recs = rs; last = record { fillers = 0; filler_bytes = 0; ending = ends } }

-- the number that what is left begins with
le_front : (t xs rest : List ℕ) (at : ℕ) → drop at t ≡ xs ++ rest → 2 ≤ length xs → le 2 t at ≡ le 2 xs 0
le_front t xs rest at is h = grind (arith, common_steps, ap (take 2) is, le_part 2 t at 2 0, le_part 2 xs 0 2 0)

module _ (t : List ℕ) (at : ℕ) {f : Piece} (fs : List Piece) (ok : Sound f) (is : drop at t ≡ row (f ∷ fs)) where
  body_there : drop (at + 2) t ≡ f.body ++ row fs
  body_there = sym (drop-drop 2 at t) ∙ ap (drop 2) is ∙ drop_at f.head (f.body ++ row fs) 2 ok.two

  fits_there : Fits t at (frame_of_bytes f.body)
  fits_there =
      let long : length t - at ≡ length f.head + (length f.body + length (row fs)) = simp (length-drop, length-append) at (ap length is) in
      record {
        within = omega (arith, ok);
        least = ok.least;
        len_is = le_front t f.head (f.body ++ row fs) at is (omega (arith, ok)) ∙ ok.len_is;
        kind_is = le_front t f.body (row fs) (at + 2) body_there ok.least;
      }

  bytes_there : take (length f.body) (drop (at + 2) t) ≡ f.body
  bytes_there = ap (take (length f.body)) body_there ∙ take_at f.body (row fs) (length f.body) refl

  pub rest_there : drop (at + 2 + length f.body) t ≡ row fs
  rest_there = sym (drop-drop (length f.body) (at + 2) t) ∙ ap (drop (length f.body)) body_there ∙ drop_at f.body (row fs) (length f.body) refl

scan_end : (t : List ℕ) (at : ℕ) → length t ≤ at → length t ≤ 4294967295 → scan_of t at ≡ plain (Ok (N.End (length t)))
unfolding scan_of scan_from frame_at
scan_end t at h small = grind (arith, common_steps)

-- what is left of a stream is a row
pub read_left : (t : List ℕ) (fs : List Piece) (at : ℕ) → Sounds fs → drop at t ≡ row fs → length t ≤ 4294967295 → read_of t at ≡ to_end (laid at fs)
read_left t [] at ok is small =
    let none : length t - at ≡ 0 = simp length-drop at (ap length is) in
    let there = scan_end t at (omega arith) small in
    read_by t at (Ok (N.End (length t))) (ap (λ c. c.step) there) ∙ rw there
read_left t (f ∷ fs) at ok is small =
    let there = scan_there t at (frame_of_bytes f.body) (fits_there t at fs ok.0 is) ok.0.kept small in
    let rest = read_left t fs (at + 2 + length f.body) ok.1 (rest_there t at fs ok.0 is) small in
    read_by t at (Ok (N.Record (framed at (frame_of_bytes f.body)))) (ap (λ c. c.step) there) ∙ rw (there, bytes_there t at fs ok.0 is, rest)

-- The reading of a stream that is the same up to a record that a step yields, and has a row from there on, first a record of the same kind and
-- length: what the step passes over is kept.
pub read_kept : (s t : List ℕ) (at : ℕ) (it : Record) → (scan_of s at).step ≡ Ok (N.Record it) → (f : Piece) (fs : List Piece) → Sounds (f ∷ fs) →
    t ≡ take it.index s ++ row (f ∷ fs) → le 2 f.body 0 ≡ it.kind → length f.body ≡ it.len → length t ≤ 4294967295 →
    read_of t at
    ≡ to_end
    (record { index = it.index; bytes = f.body; fillers = (scan_of s at).fillers; filler_bytes = (scan_of s at).filler_bytes }
    ∷ laid (it.index + 2 + length f.body) fs)
read_kept s t at it e f fs ok is kind len small =
    let y = step_fits s at it e in
    let front : length (take it.index s) ≡ it.index = length-take-le it.index s (omega arith) in
    let left : drop it.index t ≡ row (f ∷ fs) = ap (drop it.index) is ∙ drop_at (take it.index s) (row (f ∷ fs)) it.index front in
    let same : take it.index t ≡ take it.index s = ap (take it.index) is ∙ take_at (take it.index s) (row (f ∷ fs)) it.index front in
    let there : scan_of t at ≡ scan_of s at = scan_kept s t at it e same (rw (kind, len) at (fits_there t it.index fs ok.0 left)) small in
    let rest = read_left t fs (it.index + 2 + length f.body) ok.1 (rest_there t it.index fs ok.0 left) small in
    read_by t at (Ok (N.Record it)) (ap (λ c. c.step) there ∙ e) ∙ rw (there, y.ends, y.starts, ← len, bytes_there t it.index fs ok.0 left, rest)
