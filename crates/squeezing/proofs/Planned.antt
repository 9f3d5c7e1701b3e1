-- What a plan, or its refusal, says to the calls that are made of it.
-- Assumes nothing.
use Rattle.std.proofs.Common.{ℕ, ◌+◌, ◌≤◌, ◌<◌, ◌≡◌, refl, sym, ap, ◌∙◌, arith, List, [], length, take, drop, take_at, Option, None, Some, Ok, Err}
use Rattle.std.specs.Result.{result_and}
use Rattle.common.specs.declared.Refusal.{Refusal}
use Rattle.common.specs.declared.Refusal.TheVariants.{NothingThere, NoRoom}
use Rattle.common.specs.Bytes.{put}
use Rattle.iter.specs.Reading.{read_of}
use Rattle.check_nesting.specs.Check.{Verdict}
use Rattle.check_nesting.specs.Nesting.{Nests}
use Rattle.squeezing.specs.Squeeze.{landings, lands_from, first_of, squeezed_from, squeezed, squeezable, squeeze_of}
use Rattle.squeezing.specs.Squeezes.{Squeezes}
use Rattle.squeezing.specs.Plan.{planned, plan_of}
use Rattle.squeezing.specs.Preview.{dropped, preview_at, preview_of}
use Rattle.squeezing.specs.declared.plan.Planned.{Planned}
use Rattle.squeezing.proofs.Squeezable.{CanSqueeze, can_squeeze, fits, too_long, refused}
use Rattle.squeezing.proofs.Squeezes.{squeezed_squeezes}
use Rattle.squeezing.proofs.First as F

module _ (s : List ℕ) (start : ℕ) {e : Refusal} (p : Err e ≡ plan_of s start) where
  pub squeeze_refused : (room : ℕ) → Err e ≡ squeeze_of s start room
  unfolding plan_of squeeze_of
  squeeze_refused room = refused (squeezable s start) _ _ p

  pub preview_refused : (i : ℕ) → Err e ≡ preview_of s start i
  unfolding plan_of preview_of
  preview_refused i = refused (squeezable s start) _ _ p

-- what is planned
record IsPlan (s : List ℕ) (start : ℕ) (p : Planned) : Type 0 where
  pub can : squeezable s start ≡ Ok tt
  pub first : p.first ≡ first_of s start
  pub length : p.length ≡ length (squeezed s start)
  pub dropped : p.dropped ≡ dropped s start

module _ (s : List ℕ) (start : ℕ) {p : Planned} (e : Ok p ≡ plan_of s start) where
  is_plan : IsPlan s start p
  unfolding plan_of
  is_plan = by (squeezable s start) refl e
    where
      by : (v : Verdict) → squeezable s start ≡ v → Ok p ≡ result_and v (Ok (planned s start)) → IsPlan s start p
      by (Ok u) v q = record { can = v; first = cc; length = cc; dropped = cc }
      by (Err x) v q = cc

  can : CanSqueeze s start
  can = can_squeeze s start is_plan.can

  pub within : p.first ≤ length s
  within = F.within s start can.checked is_plan.first

  pub nests : Nests (read_of s p.first).recs []
  nests = F.nests s start can.checked is_plan.first

  written : squeezed_from s p.first (read_of s p.first).recs ≡ squeezed s start
  written = F.written s start can.checked is_plan.first

  found : (i : ℕ) → lands_from p.first (read_of s p.first).recs i ≡ landings s start i
  found = F.found s start can.checked is_plan.first

  pub written_fits : (n : ℕ) → p.length ≤ n → length (squeezed_from s p.first (read_of s p.first).recs) ≤ n
  written_fits n l = omega (arith, ap length written, is_plan.length)

  pub with_room : (n : ℕ) → p.length ≤ n → squeeze_of s start n ≡ Ok p.length
  with_room n l = fits s start is_plan.can (omega (arith, is_plan.length)) ∙ ap Ok (sym is_plan.length)

  pub with_less : (n : ℕ) → n < p.length → squeeze_of s start n ≡ Err NoRoom
  with_less n l = too_long s start is_plan.can (omega (arith, is_plan.length))

  -- what the buffer holds, once the squeezed stream is put there
  module _ (before after : List ℕ) (w : after ≡ put 0 (squeezed_from s p.first (read_of s p.first).recs) before) where
    pub put_squeezed : after ≡ put 0 (squeezed s start) before
    put_squeezed = w ∙ ap (λ t. put 0 t before) written

    pub call_squeezes : Squeezes s start (take p.length after)
    unfolding put
    call_squeezes =
        rw (put_squeezed, take_at (squeezed s start) (drop (0 + length (squeezed s start)) before) p.length (sym is_plan.length)) (squeezed_squeezes s start is_plan.can)

  module _ (i : ℕ) where
    preview_is : {at : Option ℕ} → at ≡ lands_from p.first (read_of s p.first).recs i → preview_at s start at ≡ preview_of s start i
    unfolding preview_of
    preview_is there = rw (is_plan.can, there, found i) refl

    pub nothing_there : None ≡ lands_from p.first (read_of s p.first).recs i → Err NothingThere ≡ preview_of s start i
    nothing_there there = preview_is there

    pub gains : {at : ℕ} → Some at ≡ lands_from p.first (read_of s p.first).recs i → Ok (record { length = p.length; dropped = p.dropped; at = at }) ≡ preview_of s start i
    gains {at} there = (λ j. Ok (record { length = is_plan.length j; dropped = is_plan.dropped j; at = at })) ∙ preview_is there
