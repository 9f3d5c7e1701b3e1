-- What nesting says of the positions that links name, and that records nest where these positions move.
-- Assumes nothing.
use Rattle.std.proofs.Common.{ℕ, suc, ◌<◌, ◌≡◌, refl, sym, ap, ◌∙◌, subst, List, [], ◌∷◌, length, Some}
use Rattle.constants.specs.declared.Role.TheVariants.{Opens}
use Rattle.constants.specs.Raw.{nesting_role_of}
use Rattle.iter.specs.Reading.{Rec}
use Rattle.links.specs.Links.{links_of}
use Rattle.links.specs.declared.Links.{Links}
use Rattle.check_nesting.specs.declared.act.Open.{Open}
use Rattle.check_nesting.specs.Stack.{inner_index}
use Rattle.check_nesting.specs.Nesting.{Nests, done, passes, opens, closes}

-- What holds of 0 and of the positions of records that nest holds of the parent and the end of each opener.
module _ (P : ℕ → Type 0) where
  pub record Named (bytes : List ℕ) : Type 0 where
    pub links : Links
    pub read : links_of bytes ≡ Some links
    pub parent : P links.parent
    pub end : P links.end

  abbrev pub EachNamed : List Rec → Type 0
  EachNamed [] = Unit
  EachNamed (r ∷ rs) = (nesting_role_of r.bytes ≡ Opens → Named r.bytes) × EachNamed rs

  abbrev pub EachIndex : List Rec → Type 0
  EachIndex [] = Unit
  EachIndex (r ∷ rs) = P r.index × EachIndex rs

  abbrev EachEnd : List Open → Type 0
  EachEnd [] = Unit
  EachEnd (o ∷ st) = P o.end × EachEnd st

  abbrev EachOpen : List Open → Type 0
  EachOpen [] = P 0
  EachOpen (o ∷ st) = P o.index × EachOpen st

  inner_named : (st : List Open) → EachOpen st → P (inner_index st)
  inner_named [] z = z
  inner_named (o ∷ st) k = k.0

  ends_named : {rs : List Rec} {st : List Open} → Nests rs st → EachIndex rs → EachEnd st
  ends_named done k = tt
  ends_named (passes o d) k = ends_named d k.1
  ends_named (opens o g z t m d) k = (ends_named d k.1).1
  ends_named (closes o t d) k = (subst P (sym t) k.0, ends_named d k.1)

  pub each_named : {rs : List Rec} {st : List Open} → Nests rs st → EachIndex rs → EachOpen st → EachNamed rs
  each_named done k p = tt
  each_named (passes o d) k p = ((λ e. cc), each_named d k.1 p)
  each_named {st = st} (opens {l = l} o g z t m d) k p =
      ((λ e. record { links = l; read = g; parent = subst P (sym t) (inner_named st p); end = (ends_named d k.1).0 }), each_named d k.1 (k.0, p))
  each_named (closes o t d) k p = ((λ e. cc), each_named d k.1 p.1)

-- Positions and links move by one map, under which 0 stays.
module _ (to : ℕ → ℕ) where
  abbrev pub links_to : Links → Links
  links_to l = record { parent = to l.parent; end = to l.end; next = to l.next }

  pub record Moves (r t : Rec) : Type 0 where
    pub index : t.index ≡ to r.index
    pub above : 0 < r.index → 0 < t.index
    pub role : nesting_role_of t.bytes ≡ nesting_role_of r.bytes
    pub links : {l : Links} → nesting_role_of r.bytes ≡ Opens → links_of r.bytes ≡ Some l → links_of t.bytes ≡ Some (links_to l)

  pub data EachMoves : List Rec → List Rec → Type 0 where
    none : EachMoves [] []
    both : {r t : Rec} {rs ts : List Rec} → Moves r t → EachMoves rs ts → EachMoves (r ∷ rs) (t ∷ ts)

  abbrev pub moved_scopes : List Open → List Open
  moved_scopes [] = []
  moved_scopes (o ∷ st) = record { index = to o.index; end = to o.end } ∷ moved_scopes st

  length_moved : (st : List Open) → length (moved_scopes st) ≡ length st
  length_moved [] = refl
  length_moved (o ∷ st) = ap suc (length_moved st)

  module _ (stays : to 0 ≡ 0) where
    inner_moved : (st : List Open) → to (inner_index st) ≡ inner_index (moved_scopes st)
    inner_moved [] = stays
    inner_moved (o ∷ st) = refl

    pub nests_moved : {rs ts : List Rec} {st : List Open} → EachMoves rs ts → Nests rs st → Nests ts (moved_scopes st)
    nests_moved none done = done
    nests_moved (both k e) (passes o d) = passes (k.role ∙ o) (nests_moved e d)
    nests_moved {st = st} (both k e) (opens o g z t m d) =
        opens (k.role ∙ o) (k.links o g) (k.above z) (ap to t ∙ inner_moved st) (rw (length_moved st) m) (rw k.index (nests_moved e d))
    nests_moved (both k e) (closes o t d) = closes (k.role ∙ o) (ap to t ∙ sym k.index) (nests_moved e d)
