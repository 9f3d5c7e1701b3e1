-- The links of a record that opens a scope: they stand at their places wherever decode answers.
-- Assumes nothing.
use Rattle.std.proofs.Common.{ℕ, ◌≡◌, refl, ap, sym, subst, ◌+◌, ◌≤◌, arith, Bool, true, false, cond, List, length, Option, None, Some, unwrap_or, Ok, Err}
use lib.Dec.{ltb, leb, eqb}
use borrow.Author.Tests.{leb-true, eqb-true, le-ltb}
use Rattle.common.specs.Bytes.{le}
use Rattle.common.specs.Reader.{Read, Reader, done, next, number, runs_out}
use Rattle.common.specs.declared.Refusal.{Refusal}
use Rattle.common.specs.declared.Refusal.TheVariants.{TooLong}
use Rattle.names.specs.declared.Part.{Part}
use Rattle.constants.specs.Kind.{kinds, class, role, opens, entry_of, class_of, class_number, role_of as kindRole, nesting_role}
use Rattle.constants.specs.declared.Class.{Class}
use Rattle.constants.specs.declared.Class.TheVariants.{Unknown, Procedure, InlineSite, Block, Thunk, SeparatedCode}
use Rattle.constants.specs.declared.Role.TheVariants.{Opens}
use Rattle.constants.proofs.Entries.{agree}
use Rattle.constants.specs.Raw.{raw_kind, nesting_role_of}
use Rattle.records.specs.Field.{index_of}
use Rattle.records.specs.Name.{name_in}
use Rattle.records.specs.declared.SymbolData.{SymbolData}
use Rattle.code.specs.Procedure.{procedure}
use Rattle.code.specs.Block.{block, separated_code}
use Rattle.code.specs.Inline.{inline_site}
use Rattle.code.specs.Thunk.{thunk}
use Rattle.symbol.specs.Decode.{layout, by_kind, decode}
use Rattle.symbol.specs.Name.{answered, name_of}
use Rattle.links.specs.Links.{class_has_next, has_next, linked, links_in, links_by, links_of, LinkFields, of_procedure, of_inline_site, of_block, of_thunk, of_separated_code, LinksAreFields}

-- what was read from a record has as link fields what stands at 2 and 6 in it, and at 10 where it has a next
abbrev Linked : Bool → List ℕ → Read SymbolData → Type 0
Linked n s (Ok r) = (cond n 14 10 ≤ length s) × LinkFields r.0 (linked (le 4 s 2) (le 4 s 6) (cond n (le 4 s 10) 0))
Linked n s (Err e) = Unit

module _ (n : Bool) (s : List ℕ) where
  -- so has what is read after something else, if it does for every value of that
  behind : {A : Type 0} (k : A → Reader SymbolData) → ((a : A) (at : ℕ) → Linked n s (k a s at)) → (r : Read A) → Linked n s (next k s r)
  behind k each (Ok r) = each r.0 r.1
  behind k each (Err e) = tt

  -- and what is read after a number, as it stands or made into a value
  field : (k : ℕ → Reader SymbolData) (at : ℕ) → (at + 4 ≤ length s → Linked n s (k (le 4 s at) s (at + 4))) → Linked n s (next k s (number 4 (λ x. x) s at))
  unfolding number
  field k at then = by (leb (at + 4) (length s)) refl
    where
      by : (b : Bool) → leb (at + 4) (length s) ≡ b → Linked n s (next k s (cond b (Ok (le 4 s at, at + 4)) (Err runs_out)))
      by true e = then (leb-true _ _ e)
      by false e = tt

  made : {A : Type 0} (make : ℕ → A) (k : A → Reader SymbolData) (r : Read ℕ) → Linked n s (next (λ x. k (make x)) s r) → Linked n s (next k s (next (λ x. done (make x)) s r))
  made make k (Ok r) h = h
  made make k (Err e) h = tt

  optional_field : (k : Option ℕ → Reader SymbolData) (at : ℕ) → (at + 4 ≤ length s → Linked n s (k (index_of (le 4 s at)) s (at + 4))) → Linked n s (next k s (next (λ x. done (index_of x)) s (number 4 (λ x. x) s at)))
  optional_field k at then = made index_of k (number 4 (λ x. x) s at) (field (λ x. k (index_of x)) at then)

  -- what is read at last
  at_last : {d : SymbolData} (to : ℕ) → cond n 14 10 ≤ length s → LinkFields d (linked (le 4 s 2) (le 4 s 6) (cond n (le 4 s 10) 0)) → Linked n s (Ok (d, to))
  at_last to room fields = (room, fields)

-- an index of 0 is none, and none is 0
index_is : (x : ℕ) → unwrap_or (index_of x) 0 ≡ x
index_is x = by (eqb x 0) refl
  where
    by : (b : Bool) → eqb x 0 ≡ b → unwrap_or (cond b None (Some x)) 0 ≡ x
    by true e = sym (eqb-true x 0 e)
    by false e = refl

optional_parent : (d : SymbolData) (p e n : ℕ) → LinkFields d (linked (unwrap_or (index_of p) 0) e n) → LinkFields d (linked p e n)
optional_parent d p e n l = subst (λ (x : ℕ). LinkFields d (linked x e n)) (index_is p) l

optional_next : (d : SymbolData) (p e n : ℕ) → LinkFields d (linked p e (unwrap_or (index_of n) 0)) → LinkFields d (linked p e n)
optional_next d p e n l = subst (λ (x : ℕ). LinkFields d (linked p e x)) (index_is n) l

ruleset reading = (field, optional_field, behind, at_last, optional_parent, optional_next, of_procedure, of_inline_site, of_block, of_thunk, of_separated_code, arith)

procedure_linked : (s : List ℕ) (kind : ℕ) → Linked true s (procedure kind s 2)
procedure_linked s kind = search reading depth 30 fits 20000

inline_site_linked : (s : List ℕ) (kind : ℕ) → Linked false s (inline_site kind s 2)
inline_site_linked s kind = search reading depth 30 fits 20000

block_linked : (s : List ℕ) (kind : ℕ) → Linked false s (block kind s 2)
block_linked s kind = search reading depth 30 fits 20000

thunk_linked : (s : List ℕ) (kind : ℕ) → Linked true s (thunk kind s 2)
thunk_linked s kind = search reading depth 30 fits 20000

separated_code_linked : (s : List ℕ) → Linked false s (separated_code s 2)
separated_code_linked s = search reading depth 30 fits 20000

-- the class of this number among six; those of the kinds that open a scope are among them: one test over the list of kinds, and
-- S_LPROC32_ID
abbrev among : ℕ → Class
among n =
    cond (eqb n (class_number Procedure)) Procedure
    (cond (eqb n (class_number InlineSite)) InlineSite
    (cond (eqb n (class_number Block)) Block
    (cond (eqb n (class_number Thunk)) Thunk
    (cond (eqb n (class_number SeparatedCode)) SeparatedCode
    Unknown))))

is_among : (k : ℕ) → nesting_role k ≡ Opens → among (class_number (class_of k)) ≡ class_of k
unfolding nesting_role kindRole class_of entry_of kinds
is_among k = by (eqb k 0x1146) refl
  where
    by : (b : Bool) → eqb k 0x1146 ≡ b → cond b Opens (kindRole k) ≡ Opens → among (class_number (class_of k)) ≡ class_of k
    by true e h = subst (λ (n : ℕ). among (class_number (class_of n)) ≡ class_of n) (sym (eqb-true k 0x1146 e)) refl
    by false e h = rw h at (agree (λ e. cond (opens (role e)) (among (class_number (class e))) (class e)) class k kinds refl refl)

-- what holds of the six classes holds of a kind that opens a scope
pub opener_class : (P : Class → Type 0) → P Unknown → P Procedure → P InlineSite → P Block → P Thunk → P SeparatedCode → (k : ℕ) → nesting_role k ≡ Opens → P (class_of k)
opener_class P u p i b t c k h =
    let n : ℕ = class_number (class_of k) in
    subst P (is_among k h)
    (by (eqb n (class_number Procedure)) (eqb n (class_number InlineSite)) (eqb n (class_number Block)) (eqb n (class_number Thunk)) (eqb n (class_number SeparatedCode)))
  where
    by : (is_p is_i is_b is_t is_c : Bool) → P (cond is_p Procedure (cond is_i InlineSite (cond is_b Block (cond is_t Thunk (cond is_c SeparatedCode Unknown)))))
    by true is_i is_b is_t is_c = p
    by false true is_b is_t is_c = i
    by false false true is_t is_c = b
    by false false false true is_c = t
    by false false false false true = c
    by false false false false false = u

-- decode, by the kind
pub decode_is : (s : List ℕ) → decode s ≡ cond (ltb 65535 (length s)) (Err TooLong) (cond (leb 2 (length s)) (by_kind (raw_kind s) s 2) (Err runs_out))
unfolding decode number raw_kind
decode_is s = by (leb 2 (length s)) refl
  where
    by : (b : Bool) → leb 2 (length s) ≡ b →
        cond (ltb 65535 (length s)) (Err TooLong) (next by_kind s (cond b (Ok (le 2 s 0, 2)) (Err runs_out)))
        ≡ cond (ltb 65535 (length s)) (Err TooLong) (cond b (by_kind (cond (ltb (length s) 2) 0 (le 2 s 0)) s 2) (Err runs_out))
    by true e = rw (le-ltb (length s) 2 (leb-true _ _ e))
    by false e = refl

-- decode answers a record that opens a scope with the link fields that stand at their places
decode_linked : (s : List ℕ) → nesting_role_of s ≡ Opens → Linked (has_next (raw_kind s)) s (decode s)
unfolding nesting_role_of has_next
decode_linked s h = rw (decode_is s) (by (ltb 65535 (length s)) (leb 2 (length s)))
  where
    at_kind : (kind : ℕ) → nesting_role kind ≡ Opens → Linked (class_has_next (class_of kind)) s (by_kind kind s 2)
    at_kind kind =
        opener_class (λ c. Linked (class_has_next c) s (layout c kind s 2)) tt (procedure_linked s kind) (inline_site_linked s kind)
        (block_linked s kind) (thunk_linked s kind) (separated_code_linked s) kind

    by : (a b : Bool) → Linked (class_has_next (class_of (raw_kind s))) s (cond a (Err TooLong) (cond b (by_kind (raw_kind s) s 2) (Err runs_out)))
    by true b = tt
    by false false = tt
    by false true = at_kind (raw_kind s) h

module _ (s : List ℕ) {r : SymbolData × ℕ} (h : nesting_role_of s ≡ Opens) (e : decode s ≡ Ok r) where
  there : (cond (has_next (raw_kind s)) 14 10 ≤ length s) × LinkFields r.0 (links_in s)
  there = subst (Linked (has_next (raw_kind s)) s) e (decode_linked s h)

  -- where decode answers an opener, its links stand within it
  pub links_there : 10 ≤ length s
  links_there = by (has_next (raw_kind s)) there.0
    where
      by : (n : Bool) → cond n 14 10 ≤ length s → 10 ≤ length s
      by true h = omega arith
      by false h = h

  pub next_there : has_next (raw_kind s) ≡ true → 14 ≤ length s
  next_there n = rw n at there.0

pub links_are_fields : (s : List ℕ) → LinksAreFields s
links_are_fields s h d consumed e = (there s h e).1

-- Name answers where decode does: then the links stand within the record, and are those of decode's answer.
module _ (s : List ℕ) {p : Option Part} (h : nesting_role_of s ≡ Opens) (e : name_of s ≡ Ok p) where
  decoded : (r : SymbolData × ℕ) × (decode s ≡ Ok r)
  unfolding name_of
  decoded = by (decode s) refl e
    where
      by : (r : Read SymbolData) → decode s ≡ r → answered name_in r ≡ Ok p → (r : SymbolData × ℕ) × (decode s ≡ Ok r)
      by (Ok r) d q = (r, d)
      by (Err x) d q = cc

  pub named_links_there : 10 ≤ length s
  named_links_there = links_there s h decoded.1

  pub named_next_there : has_next (raw_kind s) ≡ true → 14 ≤ length s
  named_next_there = next_there s h decoded.1

  pub named_links : links_of s ≡ Some (links_in s)
  unfolding links_of
  named_links = ap (links_by s) decoded.1

-- and refuses where decode does
pub unnamed_links : (s : List ℕ) {x : Refusal} → name_of s ≡ Err x → links_of s ≡ None
unfolding name_of links_of
unnamed_links s {x} e = by (decode s) refl e
  where
    by : (r : Read SymbolData) → decode s ≡ r → answered name_in r ≡ Err x → links_by s (decode s) ≡ None
    by (Ok r) d q = cc
    by (Err y) d q = ap (links_by s) d
