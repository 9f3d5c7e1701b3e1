-- The records that steps yield, each step made from the next position of the one before.
use Rattle.std.specs.Prelude.{ℕ, zero, suc, ◌≡◌, ◌⊎◌, Bool, List, [], ◌∷◌, length, take, drop, eqb, Result, Ok, Err}
use Rattle.std.specs.List.{list_any}
use Rattle.common.specs.declared.Refusal.{Refusal}
use Rattle.iter.specs.Step.{scan_of}
use Rattle.iter.specs.declared.Scan.{Scan}
use Rattle.iter.specs.declared.Next.{Next}
use Rattle.iter.specs.declared.Record.{Record}
use Rattle.iter.specs.declared.Next.TheVariants as N

-- a yielded record: the position of its length field, its bytes, and the fillers that its step passed over, with their bytes
pub record Rec : Type 0 where
  pub index : ℕ
  pub bytes : List ℕ
  pub fillers : ℕ
  pub filler_bytes : ℕ

-- how reading ends: at the end of the stream, or where a step refuses
pub data Ending : Type 0 where
  ends : Ending
  refuses : Refusal → Ending

-- the step that yields no record: the fillers that it passed over, with their bytes, and how reading ends with it
pub record Last : Type 0 where
  pub fillers : ℕ
  pub filler_bytes : ℕ
  pub ending : Ending

-- the records that are yielded, and the last step
pub record Reading : Type 0 where
  pub recs : List Rec
  pub last : Last

-- the bytes of a record in the stream
abbrev pub bytes_at : List ℕ → Record → List ℕ
bytes_at s r = take r.len (drop r.start s)

abbrev pub rec_at : List ℕ → Scan → Record → Rec
rec_at s c r = record { index = r.index; bytes = bytes_at s r; fillers = c.fillers; filler_bytes = c.filler_bytes }

abbrev pub ended : ℕ → ℕ → Ending → Reading
ended fillers filler_bytes e = record { recs = []; last = record { fillers = fillers; filler_bytes = filler_bytes; ending = e } }

abbrev pub more : Rec → Reading → Reading
more r rest = record { recs = r ∷ rest.recs; last = rest.last }

abbrev pub on_next : List ℕ → Scan → Result Next Refusal → (ℕ → Reading) → Reading
on_next s c (Ok (N.End p)) on = ended c.fillers c.filler_bytes ends
on_next s c (Ok (N.Record r)) on = more (rec_at s c r) (on r.next)
on_next s c (Err e) on = ended c.fillers c.filler_bytes (refuses e)

-- The reading from a position, where at most k steps follow. (Where k runs out it ends; that `read_of` never does so early is the law
-- `read_by` of proofs/Reading.antt: the reading is what its first step says, and the reading from the next position.)
unfoldable pub read_from : ℕ → List ℕ → ℕ → Reading
read_from zero s at = ended 0 0 ends
read_from (suc k) s at = on_next s (scan_of s at) (scan_of s at).step (λ next. read_from k s next)

-- The reading from a position. A record takes at least 4 bytes, so that there are no more records than bytes.
unfoldable pub read_of : List ℕ → ℕ → Reading
unfolding read_from
read_of s at = read_from (suc (length s)) s at

-- one of these records has this property
abbrev pub OneOf : (Rec → Type 0) → List Rec → Type 0
OneOf P [] = ⊥
OneOf P (r ∷ rs) = P r ⊎ OneOf P rs

-- A record begins at a position if steps from the start, each made from the next position of the one before, yield that index.
abbrev pub Begins : List ℕ → ℕ → ℕ → Type 0
Begins s start i = OneOf (λ r. r.index ≡ i) (read_of s start).recs

-- whether it does; that the two say the same are the laws `begins` and `begins_at_lem` of proofs/Records.antt
unfoldable pub begins_at : List ℕ → ℕ → ℕ → Bool
begins_at s start i = list_any (λ r. eqb r.index i) (read_of s start).recs
