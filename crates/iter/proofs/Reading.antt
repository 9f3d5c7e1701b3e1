-- Laws of `scan_of` that callers use, and of `read_of`: no fuel is left in them.
-- Assumes nothing.
use Rattle.std.proofs.Common.{ℕ, suc, ◌+◌, ◌≤◌, ◌<◌, ◌≡◌, refl, sym, ap, ◌∙◌, add-zero, arith, List, length, Bool, true, false, cond, Some, Result, Ok, Err}
use Rattle.std.proofs.lemmas.Grind.{common_steps}
use Rattle.std.specs.Prelude.{ltb}
use Rattle.common.specs.declared.Refusal.{Refusal}
use Rattle.common.specs.declared.Refusal.TheVariants.{TooLong}
use Rattle.constants.specs.Kind.{is_filler}
use Rattle.iter.specs.Step.{frame_at, plain, scan_from, within, scan_of, step_of}
use Rattle.iter.specs.Reading.{Reading, rec_at, more, on_next, read_from, read_of}
use Rattle.iter.specs.declared.Scan.{Scan}
use Rattle.iter.specs.declared.Next.{Next}
use Rattle.iter.specs.declared.Record.{Record}
use Rattle.iter.specs.declared.Next.TheVariants as N
use Rattle.common.proofs.Later.{unroll}
use Rattle.iter.proofs.Laws.{Fits, scan-ind}

-- A record that is yielded at p: what stands there is no filler, and its bytes are behind its length field.
pub record Own (s : List ℕ) (p : ℕ) (it : Record) : Type 0 where
  pub here : p ≡ it.index
  pub starts : it.start ≡ it.index + 2
  pub ends : it.next ≡ it.start + it.len
  pub frame : frame_at s it.index ≡ Ok (Some (record { kind = it.kind; len = it.len }))
  pub fits : Fits s it.index (record { kind = it.kind; len = it.len })
  pub kept : is_filler it.kind ≡ false

-- where a step that ends at p does so: at the end of the stream, in a refusal or at a record
abbrev pub Stops : List ℕ → ℕ → Result Next Refusal → Type 0
Stops s p (Ok (N.End q)) = (p ≡ q) × (q ≡ length s)
Stops s p (Ok (N.Record it)) = Own s p it
Stops s p (Err e) = Unit

-- The bytes passed over end where the step stops, and each record passed over has bytes.
pub record Fillers (s : List ℕ) (p : ℕ) (c : Scan) : Type 0 where
  pub within : p + c.filler_bytes ≤ length s
  pub few : c.fillers ≤ c.filler_bytes
  pub stops : Stops s (p + c.filler_bytes) c.step

fillers_from : (s : List ℕ) (k p : ℕ) → p ≤ length s → length s < p + k → Fillers s p (scan_from k s p)
fillers_from s =
    scan-ind s (Fillers s)
    (λ p e. record { within = omega arith; few = omega arith; stops = (add-zero p, e) })
    (λ p e h. record { within = omega arith; few = omega arith; stops = tt })
    (λ p f w e k.
    record { within = omega (arith, w); few = omega arith; stops = record { here = add-zero p; starts = refl; ends = refl; frame = e; fits = w; kept = k } })
    (λ p f c w _ k.
    let e : p + 2 + f.len + c.filler_bytes ≡ p + (c.filler_bytes + (2 + f.len)) = omega arith in
    record { within = omega (arith, k.within); few = omega (arith, k.few); stops = rw e at k.stops })

pub fillers_of : (s : List ℕ) (at : ℕ) → Fillers s (within s at) (scan_of s at)
unfolding scan_of
fillers_of s at = go (ltb 4294967295 (length s))
  where
    inside : within s at ≤ length s
    inside = grind (arith, common_steps)

    go : (b : Bool) → Fillers s (within s at) (cond b (plain (Err TooLong)) (scan_from (suc (length s)) s (within s at)))
    go true = record { within = omega (arith, inside); few = omega arith; stops = tt }
    go false = fillers_from s (suc (length s)) (within s at) inside (omega arith)

-- what holds of a record that a step yields
pub record Stepped (s : List ℕ) (at : ℕ) (it : Record) : Type 0 where
  pub small : length s ≤ 4294967295
  pub from : at ≤ it.index
  pub starts : it.start ≡ it.index + 2
  pub least : 2 ≤ it.len
  pub ends : it.next ≡ it.start + it.len
  pub within : it.next ≤ length s

-- what a step answered, of the scan that it ends
pub step_is : (s : List ℕ) (at : ℕ) {answer m : Result Next Refusal} → answer ≡ step_of s at → answer ≡ m → (scan_of s at).step ≡ m
unfolding step_of
step_is s at e is = sym e ∙ is

pub end_is : (s : List ℕ) (at q : ℕ) → (scan_of s at).step ≡ Ok (N.End q) → q ≡ length s
end_is s at q e = let k : Stops s (within s at + (scan_of s at).filler_bytes) (Ok (N.End q)) = rw e at (fillers_of s at).stops in k.1

pub small : (s : List ℕ) (at : ℕ) {n : Next} → (scan_of s at).step ≡ Ok n → length s ≤ 4294967295
unfolding scan_of
small s at e = grind (arith, common_steps)

module _ (s : List ℕ) (at : ℕ) (it : Record) (e : (scan_of s at).step ≡ Ok (N.Record it)) where
  pub own : Own s (within s at + (scan_of s at).filler_bytes) it
  own = rw e at (fillers_of s at).stops

  -- a record that a step yields begins behind what the step passed over
  pub fillers_to : at + (scan_of s at).filler_bytes ≡ it.index
  fillers_to = grind (arith, common_steps, own.here, own.fits.within)

  pub step_fits : Stepped s at it
  step_fits = record { small = small s at e; from = omega (arith, fillers_to); starts = own.starts; least = own.fits.least; ends = own.ends; within = omega (arith, own) }

  -- a step from a yielded record's own index yields that record, and passes nothing over
  pub again : scan_of s it.index ≡ plain (Ok (N.Record it))
  unfolding scan_of scan_from
  again = grind (arith, common_steps, own, step_fits)

module _ (s : List ℕ) where
  -- what a step yields is behind it, so that the reading goes on at later positions alone
  later : (at : ℕ) (f g : ℕ → Reading) → ((q : ℕ) → at < q → q ≤ length s → f q ≡ g q) → (n : Result Next Refusal) → (scan_of s at).step ≡ n →
      on_next s (scan_of s at) n f ≡ on_next s (scan_of s at) n g
  later at f g h (Ok (N.End p)) e = refl
  later at f g h (Ok (N.Record it)) e = let y = step_fits s at it e in ap (more (rec_at s (scan_of s at) it)) (h it.next (omega arith) (omega arith))
  later at f g h (Err r) e = refl

  -- the reading, by what the step says
  pub read_by : (at : ℕ) (n : Result Next Refusal) → (scan_of s at).step ≡ n → read_of s at ≡ on_next s (scan_of s at) n (read_of s)
  unfolding read_from read_of
  read_by at n e =
      unroll (length s) (λ k q. read_from k s q) (λ f q. on_next s (scan_of s q) (scan_of s q).step f) (λ k q. refl)
      (λ q f g h. later q f g h (scan_of s q).step refl) at
      ∙ ap (λ m. on_next s (scan_of s at) m (read_of s)) e
