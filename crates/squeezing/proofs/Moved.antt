-- A record with its links moved: it is as long, of its kind, and its links are the moved ones.
-- Assumes nothing.
use Rattle.std.proofs.Common.{ℕ, ◌≤◌, ◌<◌, ◌^◌, ◌≡◌, refl, ap, ◌∙◌, arith, List, length, Option, None, Some}
use Rattle.std.proofs.lemmas.Grind.{common_steps}
use Rattle.common.specs.Bytes.{le}
use Rattle.constants.specs.Kind.{nesting_role}
use Rattle.constants.specs.Raw.{raw_kind, nesting_role_of}
use Rattle.constants.specs.declared.Role.{Role}
use Rattle.constants.specs.declared.Role.TheVariants.{Neither, Opens, Closes}
use Rattle.links.specs.Links.{links_of, with_links}
use Rattle.links.specs.declared.Links.{Links}
use Rattle.links.proofs.Relinked.{links_is, with_links_length, with_links_kind, links_of_with_links}
use Rattle.squeezing.specs.Squeeze.{moved_link, moved_links, links_by_role, record_links, moved_by, moved}

pub record_links_is : (bytes : List ℕ) {ro : Role} → nesting_role_of bytes ≡ ro → record_links bytes ≡ links_by_role ro bytes
unfolding record_links
record_links_is bytes o = rw o

module _ (to : ℕ → Option ℕ) (bytes : List ℕ) where
  pub moved_is : {ro : Role} → nesting_role_of bytes ≡ ro → moved to bytes ≡ moved_by to bytes (links_by_role ro bytes)
  unfolding moved
  moved_is o = rw (record_links_is bytes o)

  -- what holds of the record, and of it with links in the place of its own, holds of it moved
  moved-ind : (P : List ℕ → Type 0) → P bytes → ((l : Links) → nesting_role_of bytes ≡ Opens → links_of bytes ≡ Some l → P (with_links (moved_links to l) bytes)) → P (moved to bytes)
  moved-ind P own relinked = by_role (nesting_role_of bytes) refl
    where
      by : nesting_role_of bytes ≡ Opens → (o : Option Links) → links_of bytes ≡ o → P (moved_by to bytes o)
      by opens (Some l) e = relinked l opens e
      by opens None e = own

      by_role : (ro : Role) → nesting_role_of bytes ≡ ro → P (moved to bytes)
      by_role Opens o = rw (moved_is o) (by o (links_of bytes) refl)
      by_role Closes o = rw (moved_is o) own
      by_role Neither o = rw (moved_is o) own

  pub moved_length : length (moved to bytes) ≡ length bytes
  moved_length = moved-ind (λ b. length b ≡ length bytes) refl (λ l o e. with_links_length bytes o e (moved_links to l))

  moved_kind : raw_kind (moved to bytes) ≡ raw_kind bytes
  moved_kind = moved-ind (λ b. raw_kind b ≡ raw_kind bytes) refl (λ l o e. with_links_kind bytes o e (moved_links to l))

  pub moved_number : 2 ≤ length bytes → le 2 (moved to bytes) 0 ≡ le 2 bytes 0
  unfolding raw_kind
  moved_number h = grind (arith, common_steps, moved_kind, moved_length)

  pub moved_role : nesting_role_of (moved to bytes) ≡ nesting_role_of bytes
  unfolding nesting_role_of
  moved_role = ap nesting_role moved_kind

  module _ {l : Links} (opens : nesting_role_of bytes ≡ Opens) (read : links_of bytes ≡ Some l) where
    pub moved_opener : moved to bytes ≡ with_links (moved_links to l) bytes
    moved_opener = moved_is opens ∙ rw read

    pub links_moved : ((x : ℕ) → moved_link to x < 2 ^ 32) → links_of (moved to bytes) ≡ Some (moved_links to l)
    links_moved small =
        ap links_of moved_opener
        ∙ links_of_with_links bytes opens read (moved_links to l) (small l.parent) (small l.end) (small l.next)
        (λ n. ap (moved_link to) (rw n at (ap (λ (m : Links). m.next) (links_is bytes read))))
