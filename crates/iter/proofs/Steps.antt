-- What a caller of `step` knows of the record that it yields, as the call's contract and the match on its answer say it.
-- Assumes nothing.
use Rattle.std.proofs.Common.{ℕ, ◌-◌, ◌≤◌, ◌<◌, ◌≡◌, sym, ap, ◌∙◌, arith, List, length, take, drop, Ok}
use Rattle.constants.specs.Raw.{raw_kind}
use Rattle.iter.specs.Step.{scan_of, step_of}
use Rattle.iter.specs.Reading.{bytes_at}
use Rattle.iter.specs.declared.Next.{Next}
use Rattle.iter.specs.declared.Record.{Record}
use Rattle.iter.specs.declared.Next.TheVariants as N
use Rattle.iter.proofs.Reading.{step_fits}
use Rattle.iter.proofs.Records.{kind_lent}

module _ (s : List ℕ) (at : ℕ) {n : Next} {it : Record} (e : Ok n ≡ step_of s at) (f : n ≡ N.Record it) where
  pub record_of : (scan_of s at).step ≡ Ok (N.Record it)
  unfolding step_of
  record_of = sym e ∙ ap Ok f

  -- it lies within the stream
  pub index_le_next : it.index ≤ it.next
  index_le_next = omega (arith, step_fits s at it record_of)

  pub start_le_next : it.start ≤ it.next
  start_le_next = omega (arith, step_fits s at it record_of)

  pub next_within : it.next ≤ length s
  next_within = omega (arith, step_fits s at it record_of)

  -- behind the position that the step is made from
  pub less_left : length s - it.next < length s - at
  less_left = omega (arith, step_fits s at it record_of)

  pub index_fits : it.index < 4294967296
  index_fits = omega (arith, step_fits s at it record_of)

  -- its kind, of its bytes as the caller lends them
  pub lent_kind : it.kind ≡ raw_kind (take (it.next - it.start) (drop it.start s))
  lent_kind = kind_lent s at it record_of

  -- those bytes are its own
  pub lent_bytes : take (it.next - it.start) (drop it.start s) ≡ bytes_at s it
  lent_bytes = let long : it.next - it.start ≡ it.len = omega (arith, step_fits s at it record_of) in rw long
