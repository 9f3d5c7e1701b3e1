-- Each record of the squeezed stream is the one of the stream that has its place, but for its links, which name what they named.
-- Assumes nothing.
use Rattle.std.proofs.Common.{ℕ, ◌+◌, ◌≤◌, ◌<◌, ◌^◌, ◌≡◌, refl, sym, ap, ◌∙◌, arith, List, length, ◌||◌, eqb, eq-eqb, ne_eqb, is_some, true, Option, Some, Ok}
use Rattle.std.proofs.lemmas.Grind.{common_steps}
use Rattle.constants.specs.Raw.{nesting_role_of}
use Rattle.constants.specs.declared.Role.{Role}
use Rattle.constants.specs.declared.Role.TheVariants.{Neither, Opens, Closes}
use Rattle.iter.specs.Reading.{Rec}
use Rattle.iter.proofs.Records.{Rising}
use Rattle.links.specs.Links.{links_of}
use Rattle.check_nesting.proofs.Moving.{Named, EachNamed, EachIndex, Moves, EachMoves}
use Rattle.check_nesting.proofs.Moving as M
use Rattle.squeezing.specs.Squeeze.{lands_from, moved_link, moved_links, record_links, moved, next_by, nexts_of}
use Rattle.squeezing.specs.Squeezes.{SameRecord, LinkMoved, KeptBy, EachKept}
use Rattle.squeezing.proofs.Moved.{record_links_is, moved_is, moved_role, moved_opener, links_moved}
use Rattle.squeezing.proofs.Squeezed.{Landed, none, both}

-- a record that lands is found where it does
pub same_record : {to : ℕ → Option ℕ} {at : ℕ} {rs ts : List Rec} (x y : ℕ) → Landed to at rs ts → lands_from at rs x ≡ Some y → SameRecord rs ts x y
unfolding lands_from
same_record x y none e = cc
same_record {at = at} x y (both {r = r} {t = t} {rs = rs} {ts = ts} i z b d) e = grind (arith, common_steps, same_record x y d, e, i)

-- a link that is 0 or names a record that lands
abbrev pub IsNamed : (ℕ → Option ℕ) → ℕ → Type 0
IsNamed to x = (eqb x 0 || is_some (to x)) ≡ true

module _ (to : ℕ → Option ℕ) (small : (x : ℕ) → moved_link to x < 2 ^ 32) where
  moves : (r t : Rec) → to r.index ≡ Some t.index → eqb r.index 0 ≡ eqb t.index 0 → t.bytes ≡ moved to r.bytes → Moves (moved_link to) r t
  moves r t place zero b =
      record {
        index = grind (arith, common_steps, place, zero);
        above = grind (arith, common_steps, zero);
        role = ap nesting_role_of b ∙ moved_role to r.bytes;
        links = λ o e. ap links_of b ∙ links_moved to r.bytes o e small;
      }

  pub each_moves : {at : ℕ} {rs ts : List Rec} (p : ℕ) → Landed to at rs ts → Rising p rs → ((x : ℕ) → p ≤ x → to x ≡ lands_from at rs x) →
      EachMoves (moved_link to) rs ts × EachIndex (IsNamed to) rs
  unfolding lands_from
  each_moves p none ri is = (M.none, tt)
  each_moves {at = at} p (both {r = r} {t = t} i z b d) ri is =
      let here : to r.index ≡ Some at = is r.index ri.0 ∙ rw (eq-eqb r.index r.index refl) in
      let on = each_moves (r.index + 2 + length r.bytes) d ri.1 (λ x l. is x (omega (arith, ri.0)) ∙ rw (ne_eqb r.index x (λ q. omega arith))) in
      (M.both (moves r t (here ∙ ap Some (sym i)) z b) on.0, (grind (arith, common_steps, here), on.1))

  -- each link names the record that it named
  module _ (rs ts : List Rec) (same : (x y : ℕ) → to x ≡ Some y → SameRecord rs ts x y) where
    link_kept : (x : ℕ) → IsNamed to x → LinkMoved rs ts x (moved_link to x)
    link_kept x n = grind (arith, common_steps, same x, n)

    kept : (r t : Rec) → t.bytes ≡ moved to r.bytes → (nesting_role_of r.bytes ≡ Opens → Named (IsNamed to) r.bytes) → IsNamed to (next_by (record_links r.bytes)) →
        KeptBy (nesting_role_of r.bytes) rs ts r.bytes t.bytes
    kept r t b opener next = by (nesting_role_of r.bytes) refl
      where
        by : (ro : Role) → nesting_role_of r.bytes ≡ ro → KeptBy ro rs ts r.bytes t.bytes
        by Opens o =
            let n = opener o in
            record {
              links = n.links;
              links' = moved_links to n.links;
              read = n.read;
              read' = ap links_of b ∙ links_moved to r.bytes o n.read small;
              parent = link_kept n.links.parent n.parent;
              end = link_kept n.links.end n.end;
              next = link_kept n.links.next (rw (record_links_is r.bytes o, n.read) at next);
              same = b ∙ moved_opener to r.bytes o n.read;
            }
        by Closes o = b ∙ moved_is to r.bytes o
        by Neither o = b ∙ moved_is to r.bytes o

    pub each_kept : {at : ℕ} {left left' : List Rec} → Landed to at left left' → EachNamed (IsNamed to) left → nexts_of to left ≡ Ok tt → EachKept rs ts left left'
    unfolding nexts_of
    each_kept none n e = tt
    each_kept (both {r = r} {t = t} {rs = left} i z b d) n e =
        let k : IsNamed to (next_by (record_links r.bytes)) × (nexts_of to left ≡ Ok tt) = grind (arith, common_steps, e) in
        (kept r t b n.0 k.0, each_kept d n.1 k.1)
