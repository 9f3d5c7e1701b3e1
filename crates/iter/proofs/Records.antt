-- Laws of the records that steps yield, over the list of them.
-- Assumes nothing.
use Rattle.std.proofs.Common.{ℕ, zero, suc, ◌+◌, ◌-◌, ◌≤◌, ◌<◌, ◌≡◌, refl, arith, List, [], ◌∷◌, length, take, drop, length-take, length-drop, get_or-take, get_or-drop, eqb, eq-eqb, true, inl, inr, Result, Ok, Err}
use Rattle.std.proofs.Math.Nat.{add-suc}
use Rattle.std.proofs.Math.Bool.{or-true}
use Rattle.std.specs.List.{list_any}
use Rattle.std.proofs.lemmas.Grind.{common_steps}
use Rattle.common.specs.Bytes.{le}
use Rattle.common.specs.declared.Refusal.{Refusal}
use Rattle.constants.specs.Kind.{nesting_role}
use Rattle.constants.specs.Raw.{raw_kind, nesting_role_of}
use Rattle.constants.specs.declared.Role.{Role}
use Rattle.iter.specs.Step.{scan_of}
use Rattle.iter.specs.Reading.{Rec, ends, refuses, Reading, bytes_at, rec_at, ended, more, read_of, OneOf, Begins, begins_at}
use Rattle.iter.specs.declared.Next.{Next}
use Rattle.iter.specs.declared.Record.{Record}
use Rattle.iter.specs.declared.Next.TheVariants as N
use Rattle.common.proofs.Later.{later-ind}
use Rattle.iter.proofs.Reading.{own, fillers_of, fillers_to, step_fits, end_is, read_by}

-- What is shown of every reading by what its first step says: nothing is left, a refusal, or a record and the reading from its next position.
module _
    (s : List ℕ) (P : ℕ → Reading → Type 0)
    (at_end : (at q : ℕ) → (scan_of s at).step ≡ Ok (N.End q) → P at (ended (scan_of s at).fillers (scan_of s at).filler_bytes ends))
    (at_refusal : (at : ℕ) (e : Refusal) → (scan_of s at).step ≡ Err e → P at (ended (scan_of s at).fillers (scan_of s at).filler_bytes (refuses e)))
    (goes : (at : ℕ) (it : Record) → (scan_of s at).step ≡ Ok (N.Record it) → P it.next (read_of s it.next) →
    P at (more (rec_at s (scan_of s at) it) (read_of s it.next)))
  where
    at-step : (at : ℕ) → ((q : ℕ) → at < q → q ≤ length s → P q (read_of s q)) → (n : Result Next Refusal) → (scan_of s at).step ≡ n → P at (read_of s at)
    at-step at ih (Ok (N.End q)) e = rw (read_by s at (Ok (N.End q)) e) (at_end at q e)
    at-step at ih (Ok (N.Record it)) e =
        let y = step_fits s at it e in
        rw (read_by s at (Ok (N.Record it)) e) (goes at it e (ih it.next (omega arith) (omega arith)))
    at-step at ih (Err x) e = rw (read_by s at (Err x) e) (at_refusal at x e)

    pub read-ind : (at : ℕ) → P at (read_of s at)
    read-ind = later-ind (length s) (λ at. P at (read_of s at)) (λ at ih. at-step at ih (scan_of s at).step refl)

-- a number in a part of the bytes
pub le_part : (n : ℕ) (s : List ℕ) (start len at : ℕ) → at + n ≤ len → le n (take len (drop start s)) at ≡ le n s (start + at)
unfolding le
le_part zero s start len at h = refl
le_part (suc n) s start len at h = let here : at < len = omega arith in rw (get_or-take, get_or-drop, le_part n s start len (suc at) (omega arith), add-suc)

module _ (s : List ℕ) (at : ℕ) (it : Record) (e : (scan_of s at).step ≡ Ok (N.Record it)) where
  -- the bytes of a record that a step yields
  pub bytes-length : length (bytes_at s it) ≡ it.len
  bytes-length = let y = step_fits s at it e in simp (length-take, length-drop) (omega arith)

  -- the kind that a step yields is the kind of the record's bytes
  pub kind_of : it.kind ≡ raw_kind (bytes_at s it)
  unfolding raw_kind
  kind_of =
      let o = own s at it e in
      grind (arith, common_steps, bytes-length, le_part 2 s it.start it.len 0, o)

  -- the same of the record as a caller lends it, and its role
  pub kind_lent : it.kind ≡ raw_kind (take (it.next - it.start) (drop it.start s))
  kind_lent = let long : it.next - it.start ≡ it.len = omega (arith, step_fits s at it e) in rw long kind_of

pub role_of_lem : (kind : ℕ) (bytes : List ℕ) {ro : Role} → kind ≡ raw_kind bytes → nesting_role kind ≡ ro → nesting_role_of bytes ≡ ro
unfolding nesting_role_of
role_of_lem kind bytes k q = cc

-- the records of a list stand one behind the other, from a position on
abbrev pub Rising : ℕ → List Rec → Type 0
Rising p [] = Unit
Rising p (r ∷ rs) = (p ≤ r.index) × Rising (r.index + 2 + length r.bytes) rs

pub rising : (s : List ℕ) (at : ℕ) → Rising at (read_of s at).recs
rising s =
    read-ind s (λ at r. Rising at r.recs)
    (λ at q e. tt)
    (λ at x e. tt)
    (λ at it e ih.
    let y = step_fits s at it e in
    let f : it.index + 2 + length (bytes_at s it) ≡ it.next = omega (arith, bytes-length s at it e) in
    (omega arith, rw f ih))

-- the bytes of a reading: those of the records, of their length fields, and of what was passed over
abbrev pub bytes_of_records : List Rec → ℕ
bytes_of_records [] = 0
bytes_of_records (r ∷ rs) = r.filler_bytes + (2 + length r.bytes) + bytes_of_records rs

abbrev pub bytes_read : Reading → ℕ
bytes_read r = bytes_of_records r.recs + r.last.filler_bytes

-- a reading that ends at the end of the stream passes over or yields every byte from its start on
pub adds_up : (s : List ℕ) (at : ℕ) → (read_of s at).last.ending ≡ ends → bytes_read (read_of s at) ≡ length s - at
adds_up s =
    read-ind s (λ at r. r.last.ending ≡ ends → bytes_read r ≡ length s - at)
    (λ at q e d. grind (arith, common_steps, end_is s at q e, fillers_of s at))
    (λ at x e d. cc)
    (λ at it e ih d.
    let y = step_fits s at it e in
    omega (arith, ih d, fillers_to s at it e, bytes-length s at it e))

-- that a record begins at a position, and that the question whether one does is answered so, are one
one_of_any : (i : ℕ) (rs : List Rec) → list_any (λ r. eqb r.index i) rs ≡ true → OneOf (λ r. r.index ≡ i) rs
one_of_any i [] e = cc
one_of_any i (r ∷ rs) e = grind (arith, common_steps, one_of_any i rs)

any_one_of : (i : ℕ) (rs : List Rec) → OneOf (λ r. r.index ≡ i) rs → list_any (λ r. eqb r.index i) rs ≡ true
any_one_of i [] b = absurd b
any_one_of i (r ∷ rs) (inl e) = rw (eq-eqb r.index i e)
any_one_of i (r ∷ rs) (inr b) = rw (any_one_of i rs b, or-true)

pub begins : (s : List ℕ) (start i : ℕ) → begins_at s start i ≡ true → Begins s start i
unfolding begins_at
begins s start i = one_of_any i (read_of s start).recs

pub begins_at_lem : (s : List ℕ) (start i : ℕ) → Begins s start i → begins_at s start i ≡ true
unfolding begins_at
begins_at_lem s start i = any_one_of i (read_of s start).recs
