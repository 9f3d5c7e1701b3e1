-- What the check, the finders and the squeeze look at in an opener (document 01, "Check", "Jump finder", "Climb finder"; document 02, M-103):
-- its links.
use Rattle.std.specs.Prelude.{ℕ, ◌+◌, ◌≡◌, List, Bool, true, false, cond, Option, None, Some, unwrap_or, Ok, Err}
use Rattle.common.specs.Bytes.{le, put_u32}
use Rattle.common.specs.Reader.{Read}
use Rattle.constants.specs.Kind.{class_of}
use Rattle.constants.specs.Raw.{raw_kind, nesting_role_of}
use Rattle.constants.specs.declared.Class.{Class}
use Rattle.constants.specs.declared.Class.TheVariants as C
use Rattle.constants.specs.declared.Role.TheVariants.{Opens}
use Rattle.records.specs.declared.SymbolData.{SymbolData}
use Rattle.records.specs.declared.SymbolData.TheVariants as D
use Rattle.records.specs.declared.ProcedureSymbol.{ProcedureSymbol}
use Rattle.records.specs.declared.InlineSiteSymbol.{InlineSiteSymbol}
use Rattle.records.specs.declared.BlockSymbol.{BlockSymbol}
use Rattle.records.specs.declared.ThunkSymbol.{ThunkSymbol}
use Rattle.records.specs.declared.SeparatedCodeSymbol.{SeparatedCodeSymbol}
use Rattle.symbol.specs.Decode.{decode}
use Rattle.links.specs.declared.Links.{Links}

-- Where they stand: the parent, which every opener has behind its kind, the end behind that, and the next of procedures and thunks behind
-- that (cvinfo.h: pParent, pEnd, pNext).
abbrev pub parent_at : ℕ
parent_at = 2

abbrev pub end_at : ℕ
end_at = 6

abbrev pub next_at : ℕ
next_at = 10

abbrev pub class_has_next : Class → Bool
class_has_next C.Procedure = true
class_has_next C.Thunk = true
class_has_next c = false

unfoldable pub has_next : ℕ → Bool
has_next kind = class_has_next (class_of kind)

-- the links that stand in a record, 0 for a next that it has not
abbrev pub links_in : List ℕ → Links
links_in bytes =
    record {
      parent = le 4 bytes parent_at;
      end = le 4 bytes end_at;
      next = cond (has_next (raw_kind bytes)) (le 4 bytes next_at) 0;
    }

-- None exactly where decode refuses
abbrev pub links_by : List ℕ → Read SymbolData → Option Links
links_by bytes (Ok r) = Some (links_in bytes)
links_by bytes (Err e) = None

unfoldable pub links_of : List ℕ → Option Links
links_of bytes = links_by bytes (decode bytes)

-- the bytes, where an opener of this kind stands from `at` on, with this parent, and this next if it has one, put in it
abbrev pub put_parent_and_next : ℕ → ℕ → ℕ → ℕ → List ℕ → List ℕ
put_parent_and_next kind at parent next bytes =
    cond (has_next kind) (put_u32 (at + next_at) next (put_u32 (at + parent_at) parent bytes)) (put_u32 (at + parent_at) parent bytes)

-- the record with these links in the place of its own
unfoldable pub with_links : Links → List ℕ → List ℕ
with_links l bytes = put_u32 end_at l.end (put_parent_and_next (raw_kind bytes) 0 l.parent l.next bytes)

-- The links of the typed records that open a scope, by their fields. A parent or a next that is none is 0.
abbrev pub linked : ℕ → ℕ → ℕ → Links
linked parent end next = record { parent = parent; end = end; next = next }

pub data LinkFields : SymbolData → Links → Type 0 where
  of_procedure : (x : ProcedureSymbol) → LinkFields (D.Procedure x) (linked (unwrap_or x.parent 0) x.end (unwrap_or x.next 0))
  of_inline_site : (x : InlineSiteSymbol) → LinkFields (D.InlineSite x) (linked (unwrap_or x.parent 0) x.end 0)
  of_block : (x : BlockSymbol) → LinkFields (D.Block x) (linked x.parent x.end 0)
  of_thunk : (x : ThunkSymbol) → LinkFields (D.Thunk x) (linked (unwrap_or x.parent 0) x.end (unwrap_or x.next 0))
  of_separated_code : (x : SeparatedCodeSymbol) → LinkFields (D.SeparatedCode x) (linked x.parent x.end 0)

-- The links of an opener are the fields of the record that decode makes of it. (Proved: `links_are_fields`, proofs/Openers.antt.)
abbrev pub LinksAreFields : List ℕ → Type 0
LinksAreFields bytes =
    nesting_role_of bytes ≡ Opens → (d : SymbolData) (consumed : ℕ) → decode bytes ≡ Ok (d, consumed) → LinkFields d (links_in bytes)
