-- Laws of the walk: what a turn of the loop does to the walk that is left.
-- Assumes nothing.
use Rattle.std.proofs.Common.{ℕ, ◌+◌, ◌≤◌, ◌<◌, ◌≡◌, sym, ap, ◌∙◌, arith, List, [], ◌∷◌, ◌++◌, length, reverse, Result, Ok, Err}
use Rattle.std.proofs.lemmas.Grind.{common_steps}
use Rattle.std.proofs.lemmas.List.{reverse-append, length-reverse}
use mathlib.Core.List.{tail}
use Rattle.common.specs.declared.Refusal.{Refusal}
use Rattle.common.specs.declared.Refusal.TheVariants.{NothingThere}
use Rattle.constants.specs.Kind.{nesting_role}
use Rattle.constants.specs.Raw.{raw_kind}
use Rattle.constants.specs.declared.Role.{Role}
use Rattle.iter.specs.Step.{scan_of, step_of}
use Rattle.iter.specs.Reading.{bytes_at, Reading, rec_at, read_of}
use Rattle.iter.specs.declared.Scan.{Scan}
use Rattle.iter.specs.declared.Next.{Next}
use Rattle.iter.specs.declared.Record.{Record}
use Rattle.iter.specs.declared.Next.TheVariants as N
use Rattle.iter.proofs.Reading.{read_by}
use Rattle.iter.proofs.Records.{kind_of}
use Rattle.chain.specs.Finding.{Search, refused_with}
use Rattle.chain.proofs.Goings.{Going, ends, AtRecord, turned, pushed, found}
use Rattle.walk.specs.declared.Turn.{Turn}
use Rattle.walk.specs.declared.Turn.TheVariants as T
use Rattle.walk.specs.Walk.{turn_of_role, turn_of, on_turn, walk_on, walk_from, walk_of}

-- an opener is pushed only below 64, and a closer pops only where one is open
pub push_room : (i index kind d : ℕ) → Ok T.Push ≡ turn_of i index kind d → d < 64
unfolding turn_of
push_room i index kind d e = grind (arith, common_steps)

pub pop_some : (i index kind d : ℕ) → Ok T.Pop ≡ turn_of i index kind d → 0 < d
unfolding turn_of
pop_some i index kind d e = grind (arith, common_steps)

-- the turn at a record before i is its role's
pub turn_role : {i index : ℕ} (kind : ℕ) {ro : Role} → ¬ (index ≡ i) → index ≤ i → nesting_role kind ≡ ro → (d : ℕ) → turn_of i index kind d ≡ turn_of_role ro d
unfolding turn_of
turn_role kind n l q d = grind (arith, common_steps)

-- the walk, by what its first step says; `on` is the walk from a later position
abbrev pub on_step : List ℕ → ℕ → Scan → Result Next Refusal → (ℕ → List ℕ → Search) → List ℕ → Search
on_step s i c (Err e) on st = refused_with e
on_step s i c (Ok (N.End p)) on st = refused_with NothingThere
on_step s i c (Ok (N.Record it)) on st =
    on_turn (rec_at s c it) st (turn_of i it.index (raw_kind (bytes_at s it)) (length st)) (on it.next)

-- the walk from a position, with a stack
abbrev pub walk_at : List ℕ → ℕ → ℕ → List ℕ → Search
walk_at s i at st = walk_from i (read_of s at) st

pub walk_by : (s : List ℕ) (i at : ℕ) (st : List ℕ) (n : Result Next Refusal) → (scan_of s at).step ≡ n → walk_at s i at st ≡ on_step s i (scan_of s at) n (walk_at s i) st
unfolding walk_from walk_on
walk_by s i at st (Err x) e = ap (λ (y : Reading). walk_from i y st) (read_by s at (Err x) e)
walk_by s i at st (Ok (N.End p)) e = ap (λ (x : Reading). walk_from i x st) (read_by s at (Ok (N.End p)) e)
walk_by s i at st (Ok (N.Record it)) e = ap (λ (x : Reading). walk_from i x st) (read_by s at (Ok (N.Record it)) e)

-- the loop's invariant
abbrev pub Walking : List ℕ → ℕ → ℕ → List ℕ → ℕ → ℕ → Type 0
Walking s start i chain at read = Going (walk_at s i) s start chain at read

module _ (i : ℕ) {s : List ℕ} {start : ℕ} {chain : List ℕ} {at read : ℕ} (g : Walking s start i chain at read) where
  pub at_end : {n : Next} {p : ℕ} → Ok n ≡ step_of s at → n ≡ N.End p → Err NothingThere ≡ walk_of s start i
  unfolding step_of walk_of
  at_end {p = p} e f = ends g (walk_by s i at (reverse chain) (Ok (N.End p)) (sym e ∙ ap Ok f))

  pub at_refused : {x : Refusal} → Err x ≡ step_of s at → Err x ≡ walk_of s start i
  unfolding step_of walk_of
  at_refused {x} e = ends g (walk_by s i at (reverse chain) (Err x) (sym e))

module _ (i : ℕ) {s : List ℕ} {start : ℕ} {chain : List ℕ} {at read : ℕ} {it : Record}
    (y : AtRecord (walk_at s i) s start chain at read it) {d : ℕ} (ed : d ≡ length chain) where
  -- the walk that is left, at each turn
  left : {t : Result Turn Refusal} → t ≡ turn_of i it.index it.kind d →
      walk_at s i at (reverse chain) ≡ on_turn (rec_at s (scan_of s at) it) (reverse chain) t (walk_at s i it.next)
  left e =
      walk_by s i at (reverse chain) (Ok (N.Record it)) y.yields
      ∙ rw (sym (kind_of s at it y.yields), length-reverse chain, sym ed, sym e)

  pub at_refusing : {x : Refusal} → Err x ≡ turn_of i it.index it.kind d → Err x ≡ walk_of s start i
  unfolding walk_of
  at_refusing e = ends y.going (left e)

  module _ {t : Turn} (e : Ok t ≡ turn_of i it.index it.kind d) where
    pub going_stay : t ≡ T.Stay → Walking s start i chain it.next (read + 1)
    going_stay f = turned y chain (left (ap Ok (sym f) ∙ e))

    pub going_push : t ≡ T.Push → {ch : List ℕ} → ch ≡ chain ++ it.index ∷ [] → Walking s start i ch it.next (read + 1)
    going_push f c = pushed y c (left (ap Ok (sym f) ∙ e))

    pub going_pop : t ≡ T.Pop → {ch : List ℕ} (x : ℕ) → chain ≡ ch ++ x ∷ [] → Walking s start i ch it.next (read + 1)
    going_pop f {ch} x c =
        let rest : tail (reverse chain) ≡ reverse ch = rw (c, reverse-append ch (x ∷ [])) in
        turned y ch (rw rest at (left (ap Ok (sym f) ∙ e)))

    pub at_found : t ≡ T.Found → Ok (record { chain = chain; count = read + 1 }) ≡ walk_of s start i
    unfolding walk_of
    at_found f = found y (left (ap Ok (sym f) ∙ e))
