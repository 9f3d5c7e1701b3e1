-- Laws of a hop and of a landing: which depths and positions they allow.
-- Assumes nothing.
use Rattle.std.proofs.Common.{ℕ, ◌+◌, ◌≤◌, ◌<◌, ◌≡◌, refl, arith, List, length, Result, Ok, Err}
use Rattle.std.proofs.lemmas.Grind.{common_steps}
use Rattle.common.specs.declared.Refusal.{Refusal}
use Rattle.constants.specs.Raw.{nesting_role_of}
use Rattle.constants.specs.declared.Role.{Role}
use Rattle.iter.specs.Step.{scan_of}
use Rattle.iter.specs.declared.Next.{Next}
use Rattle.iter.specs.declared.Record.{Record}
use Rattle.iter.specs.declared.Next.TheVariants as N
use Rattle.iter.proofs.Reading.{step_fits}
use Rattle.jump.specs.declared.hop.Hop.TheVariants as H
use Rattle.jump.specs.Hop.{hop_of_role, hop_of, land_on, land_of}

-- an opener is pushed only below 64, and a jump goes to a position after its opener
pub push_room : (i index next : ℕ) (bytes : List ℕ) (d : ℕ) → Ok H.Push ≡ hop_of i index next bytes d → d < 64
unfolding hop_of
push_room i index next bytes d e = grind (arith, common_steps)

pub over_after : (i index next : ℕ) (bytes : List ℕ) (d : ℕ) {end : ℕ} → Ok (H.Over end) ≡ hop_of i index next bytes d → next ≤ end
unfolding hop_of
over_after i index next bytes d e = grind (arith, common_steps)

-- the hop at a record before i is its role's
pub hop_role : {i index : ℕ} (next : ℕ) (bytes : List ℕ) {ro : Role} → ¬ (index ≡ i) → index ≤ i → nesting_role_of bytes ≡ ro → (d : ℕ) →
    hop_of i index next bytes d ≡ hop_of_role ro bytes next i d
unfolding hop_of
hop_role next bytes n l q d = grind (arith, common_steps)

-- where the closer that a jump lands on ends
pub record Lands (s : List ℕ) (end : ℕ) (closer : Record) : Type 0 where
  pub after_end : end + 4 ≤ closer.next
  pub within : closer.next ≤ length s

land_on_lem : (s : List ℕ) (end : ℕ) (closer : Record) (n : Result Next Refusal) → (scan_of s end).step ≡ n → Ok closer ≡ land_on end n → Lands s end closer
land_on_lem s end closer (Err x) e q = cc
land_on_lem s end closer (Ok (N.End p)) e q = cc
land_on_lem s end closer (Ok (N.Record it)) e q =
    let y = step_fits s end it e in
    let z : it ≡ closer = grind (arith, common_steps) in
    rw (← z) (record { after_end = omega arith; within = omega arith })

pub lands : (s : List ℕ) (end : ℕ) {closer : Record} → Ok closer ≡ land_of s end → Lands s end closer
unfolding land_of
lands s end {closer} q = land_on_lem s end closer (scan_of s end).step refl q
