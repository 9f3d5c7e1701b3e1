-- Laws of `frame_at` and of `scan_from`.
-- Assumes nothing.
use Rattle.std.proofs.Common.{ℕ, zero, suc, ◌+◌, ◌-◌, ◌≤◌, ◌<◌, ◌≡◌, refl, arith, List, length, Bool, true, false, cond, Option, None, Some, Result, Ok, Err}
use Rattle.std.proofs.lemmas.Grind.{common_steps}
use Rattle.common.specs.Bytes.{le}
use Rattle.common.specs.declared.Refusal.{Refusal}
use Rattle.constants.specs.Kind.{is_filler}
use Rattle.iter.specs.Step.{frame_at, plain, framed, pass_over, on_frame, scan_from}
use Rattle.iter.specs.declared.Frame.{Frame}
use Rattle.iter.specs.declared.Scan.{Scan}
use Rattle.iter.specs.declared.Next.TheVariants as N

-- a whole frame lies within the stream, and its record has at least two bytes
pub record Fits (s : List ℕ) (p : ℕ) (f : Frame) : Type 0 where
  pub within : p + 2 + f.len ≤ length s
  pub least : 2 ≤ f.len
  pub len_is : le 2 s p ≡ f.len
  pub kind_is : le 2 s (p + 2) ≡ f.kind

-- what is known where this frame stands
abbrev pub Stands : List ℕ → ℕ → Result (Option Frame) Refusal → Type 0
Stands s p (Ok None) = length s ≤ p
Stands s p (Ok (Some f)) = Fits s p f
Stands s p (Err e) = Unit

pub stands : (s : List ℕ) (p : ℕ) → Stands s p (frame_at s p)
unfolding frame_at
stands s p = grind (arith, common_steps)

-- a scan that passed over so much before
abbrev pub after : ℕ → ℕ → Scan → Scan
after fillers bytes c = record { fillers = c.fillers + fillers; filler_bytes = c.filler_bytes + bytes; step = c.step }

-- The loop's invariant: the scan from p, after what is passed over, is the answer r. Each filler used up one of the turns, and some bytes.
pub record Comes (s : List ℕ) (p fillers bytes : ℕ) (r : Scan) : Type 0 where
  pub within : p ≤ length s
  pub few : fillers ≤ p
  pub low : bytes ≤ p
  pub rest : after fillers bytes (scan_from (suc (length s - fillers)) s p) ≡ r

-- the invariant behind a filler
pub passes : (s : List ℕ) (p fillers bytes : ℕ) (r : Scan) (f : Frame) → frame_at s p ≡ Ok (Some f) → is_filler f.kind ≡ true →
    Comes s p fillers bytes r → Comes s (p + 2 + f.len) (fillers + 1) (bytes + (2 + f.len)) r
unfolding scan_from
passes s p fillers bytes r f ef ek h =
    let w : Fits s p f = rw ef at (stands s p) in
    let e : length s - fillers ≡ suc (length s - (fillers + 1)) = omega (arith, w, h) in
    let x : after fillers bytes (pass_over f.len (scan_from (suc (length s - (fillers + 1))) s (p + 2 + f.len))) ≡ r = rw (ef, ek, e) at h.rest in
    record { within = w.within; few = omega (arith, h); low = omega (arith, h); rest = grind (arith, x) }

-- What is shown of every scan by what stands at its first position: nothing, no whole record, a record that it yields, or a filler.
module _
    (s : List ℕ) (P : ℕ → Scan → Type 0)
    (at_end : (p : ℕ) → p ≡ length s → P p (plain (Ok (N.End p))))
    (at_refusal : (p : ℕ) (e : Refusal) → p ≤ length s → P p (plain (Err e)))
    (at_record : (p : ℕ) (f : Frame) → Fits s p f → frame_at s p ≡ Ok (Some f) → is_filler f.kind ≡ false → P p (plain (Ok (N.Record (framed p f)))))
    (at_filler : (p : ℕ) (f : Frame) (c : Scan) → Fits s p f → is_filler f.kind ≡ true → P (p + 2 + f.len) c → P p (pass_over f.len c))
  where
    at-frame : (p : ℕ) (on : ℕ → Scan) → p ≤ length s → ((f : Frame) → Fits s p f → P (p + 2 + f.len) (on (p + 2 + f.len))) →
        (x : Result (Option Frame) Refusal) → frame_at s p ≡ x → Stands s p x → P p (on_frame p x on)
    at-frame p on h ih (Ok None) e w = at_end p (omega arith)
    at-frame p on h ih (Err r) e w = at_refusal p r h
    at-frame p on h ih (Ok (Some f)) e w = go (is_filler f.kind) refl
      where
        go : (b : Bool) → is_filler f.kind ≡ b → P p (cond b (pass_over f.len (on (p + 2 + f.len))) (plain (Ok (N.Record (framed p f)))))
        go true k = at_filler p f (on (p + 2 + f.len)) w k (ih f w)
        go false k = at_record p f w e k

    pub scan-ind : (k p : ℕ) → p ≤ length s → length s < p + k → P p (scan_from k s p)
    unfolding scan_from
    scan-ind zero p h l = absurd (omega arith)
    scan-ind (suc k) p h l = at-frame p (scan_from k s) h (λ f w. scan-ind k (p + 2 + f.len) w.within (omega (arith, w))) (frame_at s p) refl (stands s p)
