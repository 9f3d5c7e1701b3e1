-- Squeezing a squeezed stream changes nothing more: each record lands where it is, and its links stay.
-- Assumes nothing.
use Rattle.std.proofs.Common.{ℕ, ◌+◌, ◌≤◌, ◌<◌, ◌^◌, ◌≡◌, refl, sym, ap, ◌∙◌, arith, List, [], ◌∷◌, ◌++◌, length, take, drop, append_assoc, take_at, Option, None, Some, Ok}
use Rattle.std.proofs.lemmas.Grind.{common_steps}
use Rattle.std.proofs.lemmas.List.{take-append-drop}
use Rattle.constants.specs.Raw.{nesting_role_of}
use Rattle.constants.specs.declared.Role.{Role}
use Rattle.constants.specs.declared.Role.TheVariants.{Neither, Opens, Closes}
use Rattle.iter.specs.Reading.{Rec, read_of}
use Rattle.iter.proofs.Rows.{Wholes, rest_there}
use Rattle.iter.proofs.Rows as R
use Rattle.links.specs.Links.{with_links}
use Rattle.links.proofs.Relinked.{with_links_again}
use Rattle.check_nesting.specs.Check.{size}
use Rattle.check_nesting.proofs.Moving.{Named, EachNamed}
use Rattle.squeezing.specs.Squeeze.{landings, lands_from, moved_link, moved_links, links_by_role, record_links, moved_by, moved, next_by, nexts_of, row, first_of, squeezed_from, squeezed}
use Rattle.squeezing.proofs.Moved.{record_links_is, moved_is, moved_role, moved_length, moved_opener, links_moved}
use Rattle.squeezing.proofs.Squeezed.{pieces, sound, Landed, none, both, Readings}
use Rattle.squeezing.proofs.Kept.{IsNamed}

-- no record lands before the position from which on they are laid
lands_low : (rs : List Rec) (at x y : ℕ) → lands_from at rs x ≡ Some y → at ≤ y
unfolding lands_from
lands_low [] at x y e = cc
lands_low (r ∷ rs) at x y e = grind (arith, common_steps, lands_low rs (at + size r) x y, e)

-- a record that has landed lands where it is
landed_stays : {to : ℕ → Option ℕ} {at : ℕ} {rs ts : List Rec} (x y : ℕ) → Landed to at rs ts → lands_from at rs x ≡ Some y → lands_from at ts y ≡ Some y
unfolding lands_from
landed_stays x y none e = cc
landed_stays {to = to} {at = at} x y (both {r = r} {t = t} {rs = rs} {ts = ts} i z b d) e =
    grind (arith, common_steps, landed_stays x y d, lands_low rs (at + size r) x y, moved_length to r.bytes, e, i, b)

module _ (to again : ℕ → Option ℕ) (small : (x : ℕ) → moved_link to x < 2 ^ 32) (stays : (x y : ℕ) → to x ≡ Some y → again y ≡ Some y) where
  link_stays : (x : ℕ) → IsNamed to x → IsNamed again (moved_link to x) × (moved_link again (moved_link to x) ≡ moved_link to x)
  link_stays x n = grind (arith, common_steps, stays x, n)

  -- a moved record is not moved again
  record Stays (bytes : List ℕ) : Type 0 where
    bytes_stay : moved again bytes ≡ bytes
    next_named : IsNamed again (next_by (record_links bytes))

  record_stays : (bytes : List ℕ) → (nesting_role_of bytes ≡ Opens → Named (IsNamed to) bytes) → IsNamed to (next_by (record_links bytes)) → Stays (moved to bytes)
  record_stays bytes opener next = by (nesting_role_of bytes) refl
    where
      unlinked : {ro : Role} → nesting_role_of bytes ≡ ro → links_by_role ro bytes ≡ None → Stays (moved to bytes)
      unlinked o u =
          let still : (to : ℕ → Option ℕ) → moved to bytes ≡ bytes = λ to. moved_is to bytes o ∙ ap (moved_by to bytes) u in
          rw (still to) (record { bytes_stay = still again; next_named = rw (record_links_is bytes o, u) refl })

      by : (ro : Role) → nesting_role_of bytes ≡ ro → Stays (moved to bytes)
      by Opens o =
          let n = opener o in
          let opens : nesting_role_of (moved to bytes) ≡ Opens = moved_role to bytes ∙ o in
          let read = links_moved to bytes o n.read small in
          let p = link_stays n.links.parent n.parent in
          let e = link_stays n.links.end n.end in
          let x = link_stays n.links.next (rw (record_links_is bytes o, n.read) at next) in
          record {
            bytes_stay =
                moved_opener again (moved to bytes) opens read
                ∙ (λ i. with_links (record { parent = p.1 i; end = e.1 i; next = x.1 i }) (moved_opener to bytes o n.read i))
                ∙ with_links_again bytes o n.read (moved_links to n.links)
                ∙ sym (moved_opener to bytes o n.read);
            next_named = rw (record_links_is (moved to bytes) opens, read) x.0;
          }
      by Closes o = unlinked o refl
      by Neither o = unlinked o refl

  abbrev EachStays : List Rec → Type 0
  EachStays [] = Unit
  EachStays (t ∷ ts) = Stays t.bytes × EachStays ts

  each_stays : {at : ℕ} {rs ts : List Rec} → Landed to at rs ts → EachNamed (IsNamed to) rs → nexts_of to rs ≡ Ok tt → EachStays ts
  unfolding nexts_of
  each_stays none n e = tt
  each_stays (both {r = r} {t = t} {rs = rs} i z b d) n e =
      let k : IsNamed to (next_by (record_links r.bytes)) × (nexts_of to rs ≡ Ok tt) = grind (arith, common_steps, e) in
      (rw b (record_stays r.bytes n.0 k.0), each_stays d n.1 k.1)

  nexts_again : (ts : List Rec) → EachStays ts → nexts_of again ts ≡ Ok tt
  unfolding nexts_of
  nexts_again [] k = refl
  nexts_again (t ∷ ts) k = rw k.0.next_named (nexts_again ts k.1)

  row_again : (s t : List ℕ) {at : ℕ} {rs ts : List Rec} → Landed to at rs ts → Wholes s rs → drop at t ≡ R.row (pieces s to rs) → EachStays ts →
      row t again ts ≡ R.row (pieces s to rs)
  unfolding row
  row_again s t none w left k = refl
  row_again s t {at} (both {r = r} {t = q} {rs = rs} i z b d) w left k =
      let ok = sound s to w.0 in
      let head : take 2 (drop q.index t) ≡ take 2 (drop r.index s) =
      ap (λ n. take 2 (drop n t)) i ∙ ap (take 2) left ∙ take_at (take 2 (drop r.index s)) (moved to r.bytes ++ R.row (pieces s to rs)) 2 ok.two in
      let next : at + 2 + length (moved to r.bytes) ≡ at + size r = omega (arith, moved_length to r.bytes) in
      let rest = row_again s t d w.1 (ap (λ n. drop n t) (sym next) ∙ rest_there t at (pieces s to rs) ok left) k.1 in
      (λ j. head j ++ (k.0.bytes_stay ∙ b) j ++ rest j) ∙ append_assoc (take 2 (drop r.index s)) (moved to r.bytes) (R.row (pieces s to rs))

landed_index : {to : ℕ → Option ℕ} {at : ℕ} {r t : Rec} {rs ts : List Rec} → Landed to at (r ∷ rs) (t ∷ ts) → t.index ≡ at
landed_index (both i z b d) = i

module _ (s : List ℕ) (start : ℕ) (t : List ℕ) (q : Readings s start t) where
  abbrev to : ℕ → Option ℕ
  to = lands_from q.r.index (q.r ∷ q.rs)

  abbrev again : ℕ → Option ℕ
  again = lands_from q.r.index (q.first ∷ q.others)

  place_stays : (x y : ℕ) → to x ≡ Some y → again y ≡ Some y
  place_stays x y = landed_stays x y q.landed

  first_is : first_of t start ≡ q.r.index
  unfolding first_of
  first_is = rw q.read (landed_index q.landed)

  module _ (named : EachNamed (IsNamed to) (q.r ∷ q.rs)) (nexts : nexts_of to (q.r ∷ q.rs) ≡ Ok tt) where
    stay : EachStays to again q.small place_stays (q.first ∷ q.others)
    stay = each_stays to again q.small place_stays q.landed named nexts

    pub nexts_named : nexts_of (landings t start) (read_of t start).recs ≡ Ok tt
    nexts_named = rw (first_is, q.read) (nexts_again to again q.small place_stays (q.first ∷ q.others) stay)

    pub squeezed_again : squeezed t start ≡ t
    unfolding squeezed squeezed_from
    squeezed_again =
        (λ i. squeezed_from t (first_is i) (q.read i).recs)
        ∙ ap (λ x. take q.r.index t ++ x) (row_again to again q.small place_stays s t q.landed q.wholes q.left stay ∙ sym q.left)
        ∙ take-append-drop q.r.index t
