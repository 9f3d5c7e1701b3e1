-- Step (document 01, "Step").
use Rattle.std.specs.Prelude.{ℕ, zero, suc, ◌+◌, ◌-◌, List, cond, length, ltb, leb, Option, None, Some, Result, Ok, Err}
use Rattle.common.specs.Bytes.{le}
use Rattle.common.specs.declared.Refusal.{Refusal}
use Rattle.common.specs.declared.Refusal.TheVariants.{UnexpectedEof, SymbolTooShort, TooLong}
use Rattle.constants.specs.Kind.{is_filler}
use Rattle.iter.specs.declared.Frame.{Frame}
use Rattle.iter.specs.declared.Scan.{Scan}
use Rattle.iter.specs.declared.Record.{Record}
use Rattle.iter.specs.declared.Next.{Next}
use Rattle.iter.specs.declared.Next.TheVariants as N

-- With no byte left, nothing. Else a u16 length is read: 1 at the unmoved position if one byte is left; 2, position after the
-- length, if it is below 2; 1, position after the length, if fewer bytes follow.
unfoldable pub frame_at : List ℕ → ℕ → Result (Option Frame) Refusal
frame_at s at =
    cond (leb (length s) at) (Ok None)
    (cond (ltb (length s - at) 2) (Err (UnexpectedEof at))
    (cond (ltb (le 2 s at) 2) (Err (SymbolTooShort (at + 2)))
    (cond (ltb (length s - (at + 2)) (le 2 s at)) (Err (UnexpectedEof (at + 2)))
    (Ok (Some (record { kind = le 2 s (at + 2); len = le 2 s at }))))))

-- a step that passes nothing over, and one that passes over a filler of len bytes first
abbrev pub plain : Result Next Refusal → Scan
plain n = record { fillers = 0; filler_bytes = 0; step = n }

abbrev pub pass_over : ℕ → Scan → Scan
pass_over len c = record { fillers = c.fillers + 1; filler_bytes = c.filler_bytes + (2 + len); step = c.step }

-- the record of a frame: the kind, index, the record's bytes, next position
abbrev pub framed : ℕ → Frame → Record
framed p f = record { kind = f.kind; index = p; start = p + 2; len = f.len; next = p + 2 + f.len }

-- fillers are passed over and reading goes on (`on`); otherwise the record
abbrev pub on_record : ℕ → Frame → (ℕ → Scan) → Scan
on_record p f on =
    cond (is_filler f.kind) (pass_over f.len (on (p + 2 + f.len))) (plain (Ok (N.Record (framed p f))))

abbrev pub on_frame : ℕ → Result (Option Frame) Refusal → (ℕ → Scan) → Scan
on_frame p (Ok None) on = plain (Ok (N.End p))
on_frame p (Ok (Some f)) on = on_record p f on
on_frame p (Err e) on = plain (Err e)

-- A step from p, where at most k records follow. (Where k runs out it answers End; that `scan_of` never does so early is the law `end_is` of
-- proofs/Reading.antt: End is answered at the end of the stream alone.)
unfoldable pub scan_from : ℕ → List ℕ → ℕ → Scan
scan_from zero s p = plain (Ok (N.End p))
scan_from (suc k) s p = on_frame p (frame_at s p) (λ q. scan_from k s q)

-- A position past the end becomes the end.
abbrev pub within : List ℕ → ℕ → ℕ
within s at = cond (ltb at (length s)) at (length s)

-- 5 for a stream above 4,294,967,295 bytes. (A record takes at least 4 bytes, so that no more follow than there are bytes.)
unfoldable pub scan_of : List ℕ → ℕ → Scan
unfolding scan_from
scan_of s at = cond (ltb 4294967295 (length s)) (plain (Err TooLong)) (scan_from (suc (length s)) s (within s at))

unfoldable pub step_of : List ℕ → ℕ → Result Next Refusal
unfolding scan_of
step_of s at = (scan_of s at).step
