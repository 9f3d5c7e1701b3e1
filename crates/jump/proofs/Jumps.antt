-- Laws of the jump finder: what a turn of the loop does to the search that is left.
-- Assumes nothing.
use Rattle.std.proofs.Common.{ℕ, ◌+◌, ◌-◌, ◌≤◌, ◌<◌, ◌≡◌, refl, sym, ap, ◌∙◌, add_assoc, arith, List, [], ◌∷◌, ◌++◌, length, take, drop, reverse, Result, Ok, Err}
use Rattle.std.proofs.lemmas.List.{length-reverse}
use Rattle.common.specs.declared.Refusal.{Refusal}
use Rattle.common.specs.declared.Refusal.TheVariants.{NothingThere}
use Rattle.iter.specs.Step.{scan_of, step_of}
use Rattle.iter.specs.Reading.{bytes_at, Rec, rec_at}
use Rattle.iter.specs.declared.Next.{Next}
use Rattle.iter.specs.declared.Record.{Record}
use Rattle.iter.specs.declared.Next.TheVariants as N
use Rattle.iter.proofs.Reading.{step_fits}
use Rattle.chain.specs.Finding.{Search, seen}
use Rattle.chain.proofs.Goings.{Going, ends, onward, AtRecord, turned, pushed, found}
use Rattle.jump.specs.declared.hop.Hop.{Hop}
use Rattle.jump.specs.declared.hop.Hop.TheVariants as H
use Rattle.jump.specs.Hop.{hop_of, land_of}
use Rattle.jump.specs.Jump.{on_land, on_hop, on_step, jump_body, jump_by, jump_from, jump_of}
use Rattle.jump.proofs.Hops.{over_after, lands}
use Rattle.common.proofs.Later.{unroll}

-- the body calls later positions only
module _ (s : List ℕ) (i : ℕ) (f g : ℕ → List ℕ → Search) where
  later_land : (st : List ℕ) (end : ℕ) (l : Result Record Refusal) → l ≡ land_of s end → ((q : ℕ) → end < q → q ≤ length s → f q ≡ g q) → on_land s end st l f ≡ on_land s end st l g
  later_land st end (Ok closer) e h = let y = lands s end e in ap (λ (x : List ℕ → Search). seen (rec_at s (scan_of s end) closer) (x st)) (h closer.next (omega arith) (omega arith))
  later_land st end (Err x) e h = refl

  later_hop : (r : Rec) (at index next : ℕ) (bytes st : List ℕ) (hop : Result Hop Refusal) → hop ≡ hop_of i index next bytes (length st) → at < next → next ≤ length s →
      ((q : ℕ) → at < q → q ≤ length s → f q ≡ g q) → on_hop s r next st hop f ≡ on_hop s r next st hop g
  later_hop r at index next bytes st (Ok H.Stay) e a b h = ap (λ (x : List ℕ → Search). seen r (x st)) (h next a b)
  later_hop r at index next bytes st (Ok H.Push) e a b h = ap (λ (x : List ℕ → Search). seen r (x (r.index ∷ st))) (h next a b)
  later_hop r at index next bytes st (Ok (H.Over end)) e a b h =
      let o : next ≤ end = over_after i index next bytes (length st) e in
      ap (seen r) (later_land st end (land_of s end) refl (λ q u v. h q (omega arith) v))
  later_hop r at index next bytes st (Ok H.Found) e a b h = refl
  later_hop r at index next bytes st (Err x) e a b h = refl

  later_step : (at : ℕ) (n : Result Next Refusal) → (scan_of s at).step ≡ n → ((q : ℕ) → at < q → q ≤ length s → f q ≡ g q) →
      on_step s i (scan_of s at) n f ≡ on_step s i (scan_of s at) n g
  later_step at (Err x) e h = refl
  later_step at (Ok (N.End p)) e h = refl
  later_step at (Ok (N.Record it)) e h =
      let y = step_fits s at it e in
      λ j st. later_hop (rec_at s (scan_of s at) it) at it.index it.next (bytes_at s it) st (hop_of i it.index it.next (bytes_at s it) (length st)) refl
      (omega (arith, y)) (omega (arith, y)) h j

later_body : (s : List ℕ) (i at : ℕ) (f g : ℕ → List ℕ → Search) → ((q : ℕ) → at < q → q ≤ length s → f q ≡ g q) → jump_body s i f at ≡ jump_body s i g at
unfolding jump_body
later_body s i at f g h = later_step s i f g at (scan_of s at).step refl h

jump_unroll : (s : List ℕ) (i at : ℕ) → jump_from s i at ≡ jump_body s i (jump_from s i) at
unfolding jump_from jump_by
jump_unroll s i at = unroll (length s) (λ k q. jump_by k s i q) (jump_body s i) (λ k q. refl) (later_body s i) at

-- The search from a position, by what the step there says: no fuel is left in it.
pub jump_by_lem : (s : List ℕ) (i at : ℕ) (st : List ℕ) (n : Result Next Refusal) → (scan_of s at).step ≡ n → jump_from s i at st ≡ on_step s i (scan_of s at) n (jump_from s i) st
unfolding jump_body
jump_by_lem s i at st n e = ap (λ (x : List ℕ → Search). x st) (jump_unroll s i at) ∙ ap (λ (m : Result Next Refusal). on_step s i (scan_of s at) m (jump_from s i) st) e

-- the loop's invariant
abbrev pub Jumping : List ℕ → ℕ → ℕ → List ℕ → ℕ → ℕ → Type 0
Jumping s start i chain at read = Going (jump_from s i) s start chain at read

module _ (i : ℕ) {s : List ℕ} {start : ℕ} {chain : List ℕ} {at read : ℕ} (g : Jumping s start i chain at read) where
  pub at_end : {n : Next} {p : ℕ} → Ok n ≡ step_of s at → n ≡ N.End p → Err NothingThere ≡ jump_of s start i
  unfolding step_of jump_of
  at_end {p = p} e f = ends g (jump_by_lem s i at (reverse chain) (Ok (N.End p)) (sym e ∙ ap Ok f))

  pub at_refused : {x : Refusal} → Err x ≡ step_of s at → Err x ≡ jump_of s start i
  unfolding step_of jump_of
  at_refused {x} e = ends g (jump_by_lem s i at (reverse chain) (Err x) (sym e))

module _ (i : ℕ) {s : List ℕ} {start : ℕ} {chain : List ℕ} {at read : ℕ} {it : Record}
    (y : AtRecord (jump_from s i) s start chain at read it) {d : ℕ} (ed : d ≡ length chain) where
  abbrev r : Rec
  r = rec_at s (scan_of s at) it

  -- the record as the loop lends it
  abbrev lent : List ℕ
  lent = take (it.next - it.start) (drop it.start s)

  -- the search that is left, at each hop
  left : {h : Result Hop Refusal} → h ≡ hop_of i it.index it.next lent d → jump_from s i at (reverse chain) ≡ on_hop s r it.next (reverse chain) h (jump_from s i)
  left e =
      let long : it.next - it.start ≡ it.len = omega (arith, y.fits) in
      jump_by_lem s i at (reverse chain) (Ok (N.Record it)) y.yields
      ∙ rw (← long, length-reverse chain, sym ed, sym e)

  pub at_refusing : {x : Refusal} → Err x ≡ hop_of i it.index it.next lent d → Err x ≡ jump_of s start i
  unfolding jump_of
  at_refusing e = ends y.going (left e)

  module _ {h : Hop} (e : Ok h ≡ hop_of i it.index it.next lent d) where
    pub going_stay : h ≡ H.Stay → Jumping s start i chain it.next (read + 1)
    going_stay f = turned y chain (left (ap Ok (sym f) ∙ e))

    pub going_push : h ≡ H.Push → {ch : List ℕ} → ch ≡ chain ++ it.index ∷ [] → Jumping s start i ch it.next (read + 1)
    going_push f c = pushed y c (left (ap Ok (sym f) ∙ e))

    pub at_found : h ≡ H.Found → Ok (record { chain = chain; count = read + 1 }) ≡ jump_of s start i
    unfolding jump_of
    at_found f = found y (left (ap Ok (sym f) ∙ e))

    module _ {end : ℕ} (f : h ≡ H.Over end) where
      landed : {l : Result Record Refusal} → l ≡ land_of s end → jump_from s i at (reverse chain) ≡ seen r (on_land s end (reverse chain) l (jump_from s i))
      landed el = left (ap Ok (sym f) ∙ e) ∙ rw (sym el)

      pub at_miss : {x : Refusal} → Err x ≡ land_of s end → Err x ≡ jump_of s start i
      unfolding jump_of
      at_miss el = ends y.going (landed el)

      -- a jump goes on behind its opener and its closer, within the stream
      pub over : {closer : Record} → Ok closer ≡ land_of s end → (it.next + 4 ≤ closer.next) × (closer.next ≤ length s)
      over el =
          let a : it.next ≤ end = over_after i it.index it.next lent d (ap Ok (sym f) ∙ e) in
          let l = lands s end el in
          (omega arith, omega arith)

      pub going_over : {closer : Record} → Ok closer ≡ land_of s end → Jumping s start i chain closer.next (read + 1 + 1)
      going_over {closer} el =
          let l : it.next + 4 ≤ closer.next = (over el).0 in
          rw (add_assoc read 1 1) (onward y.going closer.next 2 chain (omega (arith, y.fits)) (over el).1 (landed el) refl (omega arith))
