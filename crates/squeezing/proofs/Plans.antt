-- Laws of the planning loop.
-- Assumes nothing.
use Rattle.std.proofs.Common.{cond, ℕ, ◌+◌, ◌≤◌, ◌≡◌, refl, sym, ap, ◌∙◌, arith, List, [], ◌∷◌, length, true, false, Option, None, Some, eqb, is_some, ◌||◌, Result, Ok, Err}
use Rattle.std.specs.Prelude.{sum_by, IsSome}
use Rattle.std.specs.Result.{result_and}
use Rattle.std.proofs.lemmas.Grind.{common_steps}
use Rattle.common.specs.declared.Refusal.{Refusal}
use Rattle.common.specs.declared.Refusal.TheVariants.{WrongNext}
use Rattle.constants.specs.Raw.{raw_kind, nesting_role_of}
use Rattle.constants.specs.Kind.{nesting_role, opens}
use Rattle.constants.specs.declared.Role.{Role}
use Rattle.constants.specs.declared.Role.TheVariants.{Opens, Closes, Neither}
use Rattle.iter.specs.Step.{scan_of}
use Rattle.iter.specs.Reading.{Reading, bytes_at, rec_at, read_of}
use Rattle.iter.specs.declared.Record.{Record}
use Rattle.iter.specs.declared.Next.TheVariants as N
use Rattle.iter.proofs.Reading.{read_by}
use Rattle.iter.proofs.Records.{bytes-length}
use Rattle.common.specs.Bytes.{le}
use Rattle.links.specs.Links.{has_next, links_of}
use Rattle.links.specs.declared.Links.{Links}
use Rattle.links.proofs.Relinked.{links_is, next_within}
use Rattle.check_nesting.specs.declared.act.Open.{Open}
use Rattle.check_nesting.specs.Check.{size}
use Rattle.check_nesting.specs.Nesting.{Nests}
use Rattle.check_nesting.proofs.Heads.{read_nests, head_read, rest_nests}
use Rattle.squeezing.specs.declared.landing.Landing.{Landing}
use Rattle.squeezing.specs.Squeeze.{first_of, links_by_role, record_links, next_by, nexts_of}
use Rattle.squeezing.specs.Landing.{landing_at, Lands}
use Rattle.squeezing.proofs.Landings.{first_lands, behind_fits}
use Rattle.squeezing.specs.Plan.{squeezed_length, Readable}

-- what links_of answers of a readable opener
read_links : (bytes : List ℕ) → Readable bytes → nesting_role_of bytes ≡ Opens → (l : Links) × (links_of bytes ≡ Some l)
read_links bytes h o = by (links_of bytes) refl (h o)
  where
    by : (l : Option Links) → links_of bytes ≡ l → IsSome (links_of bytes) → (l : Links) × (links_of bytes ≡ Some l)
    by (Some l) e i = (l, e)
    by None e i = cc

pub next_there : (bytes : List ℕ) (kind : ℕ) → kind ≡ raw_kind bytes → Readable bytes → nesting_role kind ≡ Opens → has_next kind ≡ true → 14 ≤ length bytes
unfolding nesting_role_of
next_there bytes kind k h o n = let r = read_links bytes h (rw k at o) in next_within bytes (rw k at o) r.1 (rw k at n)

-- the next of an opener is the one that stands in it
pub next_stands : (bytes : List ℕ) {kind : ℕ} → kind ≡ raw_kind bytes → Readable bytes → nesting_role kind ≡ Opens → cond (has_next kind) (le 4 bytes 10) 0 ≡ next_by (record_links bytes)
unfolding record_links nesting_role_of
next_stands bytes k h o =
    let r = read_links bytes h (rw k at o) in
    rw (sym k, o, r.1, links_is bytes r.1, sym k) refl

-- and another record has none
pub next_of_other : (bytes : List ℕ) {kind : ℕ} → kind ≡ raw_kind bytes → {ro : Role} → ro ≡ nesting_role kind → opens ro ≡ false → 0 ≡ next_by (record_links bytes)
unfolding record_links nesting_role_of
next_of_other bytes k {ro} e n = rw (sym k, sym e) (by ro n)
  where
    by : (ro : Role) → opens ro ≡ false → 0 ≡ next_by (links_by_role ro bytes)
    by Opens n = cc
    by Closes n = refl
    by Neither n = refl

-- where the first record begins, by what the first step says
module _ (s : List ℕ) (start : ℕ) where
  pub first_at_record : {it : Record} → (scan_of s start).step ≡ Ok (N.Record it) → it.index ≡ first_of s start
  unfolding first_of
  first_at_record {it} e = rw (read_by s start (Ok (N.Record it)) e) refl

  pub first_at_end : {p : ℕ} → (scan_of s start).step ≡ Ok (N.End p) → length s ≡ first_of s start
  unfolding first_of
  first_at_end {p} e = rw (read_by s start (Ok (N.End p)) e) refl

  pub first_at_refusal : {x : Refusal} → (scan_of s start).step ≡ Err x → length s ≡ first_of s start
  unfolding first_of
  first_at_refusal {x} e = rw (read_by s start (Err x) e) refl

-- what is left of the plan, with a record in front
abbrev pub plan_left : List ℕ → ℕ → Landing → Result ℕ Refusal
plan_left s first here = result_and (nexts_of (landing_at s first) (read_of s here.at).recs) (Ok (here.to + sum_by size (read_of s here.at).recs))

-- The loop's invariant: what is left of the plan is the plan.
pub record Planning (s : List ℕ) (first : ℕ) (here known : Landing) : Type 0 where
  pub here_lands : here.to ≤ here.at
  pub known_lands : Lands s first known
  pub st : List Open
  pub nests : Nests (read_of s here.at).recs st
  pub left : plan_left s first here ≡ squeezed_length s first

pub planning_first : (s : List ℕ) (first : ℕ) → Nests (read_of s first).recs [] → Planning s first (record { at = first; to = first }) (record { at = first; to = first })
unfolding squeezed_length
planning_first s first h = record { here_lands = omega arith; known_lands = first_lands s first; st = []; nests = h; left = refl }

module _ {s : List ℕ} {first : ℕ} {here known : Landing} (g : Planning s first here known) where
  -- nothing is left
  ended : (read_of s here.at).recs ≡ [] → Ok here.to ≡ squeezed_length s first
  unfolding nexts_of
  ended none =
      let zero : here.to + 0 ≡ here.to = omega arith in
      rw (none, zero) at g.left

  pub at_end : {p : ℕ} → (scan_of s here.at).step ≡ Ok (N.End p) → Ok here.to ≡ squeezed_length s first
  at_end {p} e = ended (ap (λ (r : Reading). r.recs) (read_by s here.at (Ok (N.End p)) e))

  pub at_refused : {x : Refusal} → (scan_of s here.at).step ≡ Err x → Ok here.to ≡ squeezed_length s first
  at_refused {x} e = ended (ap (λ (r : Reading). r.recs) (read_by s here.at (Err x) e))

  module _ {it : Record} (e : (scan_of s here.at).step ≡ Ok (N.Record it)) where
    nests_here : Nests (rec_at s (scan_of s here.at) it ∷ (read_of s it.next).recs) g.st
    nests_here = read_nests s here.at e g.nests

    pub readable_here : Readable (bytes_at s it)
    readable_here = head_read nests_here

    module _ {next : ℕ} (n : next ≡ next_by (record_links (bytes_at s it))) where
      pub at_wrong : (eqb next 0 || is_some (landing_at s first next)) ≡ false → Err (WrongNext it.index) ≡ squeezed_length s first
      unfolding nexts_of
      at_wrong w = rw (read_by s here.at (Ok (N.Record it)) e, sym n, w) at g.left

      pub goes_on : {k : Landing} → (eqb next 0 || is_some (landing_at s first next)) ≡ true → Lands s first k →
          Planning s first (record { at = it.next; to = here.to + 2 + it.len }) k
      unfolding nexts_of
      goes_on b l =
          let y = read_by s here.at (Ok (N.Record it)) e in
          let sizes : here.to + 2 + it.len + sum_by size (read_of s it.next).recs ≡ here.to + sum_by size (rec_at s (scan_of s here.at) it ∷ (read_of s it.next).recs) =
          grind (arith, common_steps, bytes-length s here.at it e) in
          record {
            here_lands = behind_fits s here g.here_lands e;
            known_lands = l;
            st = (rest_nests nests_here).0;
            nests = (rest_nests nests_here).1;
            left = ap (λ (k : ℕ). result_and (nexts_of (landing_at s first) (read_of s it.next).recs) (Ok k)) sizes ∙ (rw (y, sym n, b) at g.left);
          }
