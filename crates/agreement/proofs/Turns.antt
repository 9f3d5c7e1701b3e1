-- What each finder does with a record, by where the record lies and by its role.
-- Assumes nothing.
use Rattle.std.proofs.Common.{ℕ, ◌≤◌, ◌<◌, ◌≡◌, ap, ◌∙◌, arith, List, ◌∷◌, length, Some, Result, Ok, Err}
use Rattle.std.proofs.lemmas.Grind.{common_steps}
use Rattle.common.specs.declared.Refusal.{Refusal}
use Rattle.common.specs.declared.Refusal.TheVariants.{NothingThere}
use Rattle.constants.specs.Kind.{nesting_role}
use Rattle.constants.specs.Raw.{raw_kind, nesting_role_of}
use Rattle.constants.specs.declared.Role.TheVariants.{Neither, Opens, Closes}
use Rattle.iter.specs.Step.{scan_of}
use Rattle.iter.specs.Reading.{bytes_at, Rec, rec_at}
use Rattle.iter.specs.declared.Record.{Record}
use Rattle.iter.specs.declared.Next.TheVariants as N
use Rattle.iter.proofs.Records.{kind_of}
use Rattle.links.specs.Links.{links_of}
use Rattle.links.specs.declared.Links.{Links}
use Rattle.chain.specs.Finding.{Search, seen, found_at, refused_with}
use Rattle.walk.specs.declared.Turn.{Turn}
use Rattle.walk.specs.declared.Turn.TheVariants as T
use Rattle.walk.specs.Walk.{turn_of, on_turn}
use Rattle.walk.proofs.Walks.{walk_at, walk_by}
use Rattle.jump.specs.declared.hop.Hop.{Hop}
use Rattle.jump.specs.declared.hop.Hop.TheVariants as H
use Rattle.jump.specs.Hop.{hop_of, land_of}
use Rattle.jump.specs.Jump.{on_hop, jump_from}
use Rattle.jump.proofs.Jumps.{jump_by_lem}

-- equal searches end alike
pub same_out : {w v : Search} → w ≡ v → w.out ≡ v.out
same_out = ap (λ (x : Search). x.out)

pub same_count : {w v : Search} → w ≡ v → length w.visited ≡ length v.visited
same_count = ap (λ (x : Search). length x.visited)

module _ (s : List ℕ) (i at : ℕ) (st : List ℕ) (it : Record) (e : (scan_of s at).step ≡ Ok (N.Record it)) where
  abbrev r : Rec
  r = rec_at s (scan_of s at) it

  abbrev bytes : List ℕ
  bytes = bytes_at s it

  walk_turn : (t : Result Turn Refusal) → turn_of i it.index (raw_kind bytes) (length st) ≡ t → walk_at s i at st ≡ on_turn r st t (walk_at s i it.next)
  walk_turn t q = walk_by s i at st (Ok (N.Record it)) e ∙ rw q

  jump_hop : (h : Result Hop Refusal) → hop_of i it.index it.next bytes (length st) ≡ h → jump_from s i at st ≡ on_hop s r it.next st h (jump_from s i)
  jump_hop h q = jump_by_lem s i at st (Ok (N.Record it)) e ∙ rw q

  pub walk_same : it.index ≡ i → walk_at s i at st ≡ found_at r st
  unfolding turn_of
  walk_same q = walk_turn (Ok T.Found) (grind (arith, common_steps))

  pub jump_same : it.index ≡ i → jump_from s i at st ≡ found_at r st
  unfolding hop_of
  jump_same q = jump_hop (Ok H.Found) (grind (arith, common_steps))

  pub walk_past : i < it.index → walk_at s i at st ≡ seen r (refused_with NothingThere)
  unfolding turn_of
  walk_past l = walk_turn (Err NothingThere) (grind (arith, common_steps))

  pub jump_past : i < it.index → jump_from s i at st ≡ seen r (refused_with NothingThere)
  unfolding hop_of
  jump_past l = jump_hop (Err NothingThere) (grind (arith, common_steps))

  module _ (l : it.index < i) where
    pub walk_plain : nesting_role_of bytes ≡ Neither → walk_at s i at st ≡ seen r (walk_at s i it.next st)
    unfolding turn_of nesting_role_of
    walk_plain q = walk_turn (Ok T.Stay) (grind (arith, common_steps))

    pub jump_plain : nesting_role_of bytes ≡ Neither → jump_from s i at st ≡ seen r (jump_from s i it.next st)
    unfolding hop_of
    jump_plain q = jump_hop (Ok H.Stay) (grind (arith, common_steps))

    pub walk_open : nesting_role_of bytes ≡ Opens → length st < 64 → walk_at s i at st ≡ seen r (walk_at s i it.next (it.index ∷ st))
    unfolding turn_of nesting_role_of
    walk_open q h = walk_turn (Ok T.Push) (grind (arith, common_steps))

    module _ {k : Links} (q : nesting_role_of bytes ≡ Opens) (g : links_of bytes ≡ Some k) (f : it.next ≤ k.end) where
      pub jump_push : i ≤ k.end → length st < 64 → jump_from s i at st ≡ seen r (jump_from s i it.next (it.index ∷ st))
      unfolding hop_of
      jump_push a h = jump_hop (Ok H.Push) (grind (arith, common_steps))

      pub jump_over : {to : Record} → k.end < i → (scan_of s k.end).step ≡ Ok (N.Record to) → to.index ≡ k.end → nesting_role_of (bytes_at s to) ≡ Closes →
          jump_from s i at st ≡ seen r (seen (rec_at s (scan_of s k.end) to) (jump_from s i to.next st))
      unfolding hop_of land_of nesting_role_of
      jump_over {to} a h here c =
          let closer : nesting_role to.kind ≡ Closes = ap nesting_role (kind_of s k.end to h) ∙ c in
          let landing : land_of s k.end ≡ Ok to = grind (arith, common_steps) in
          jump_hop (Ok (H.Over k.end)) (grind (arith, common_steps)) ∙ rw landing

pub walk_close : (s : List ℕ) (i at x : ℕ) (st : List ℕ) (it : Record) (e : (scan_of s at).step ≡ Ok (N.Record it)) → it.index < i →
    nesting_role_of (bytes_at s it) ≡ Closes → walk_at s i at (x ∷ st) ≡ seen (rec_at s (scan_of s at) it) (walk_at s i it.next st)
unfolding turn_of nesting_role_of
walk_close s i at x st it e l q = walk_turn s i at (x ∷ st) it e (Ok T.Pop) (grind (arith, common_steps))

pub walk_end_lem : (s : List ℕ) (i at : ℕ) (st : List ℕ) (q : ℕ) → (scan_of s at).step ≡ Ok (N.End q) → walk_at s i at st ≡ refused_with NothingThere
walk_end_lem s i at st q e = walk_by s i at st (Ok (N.End q)) e

pub jump_end : (s : List ℕ) (i at : ℕ) (st : List ℕ) (q : ℕ) → (scan_of s at).step ≡ Ok (N.End q) → jump_from s i at st ≡ refused_with NothingThere
jump_end s i at st q e = jump_by_lem s i at st (Ok (N.End q)) e
