-- What squeezing leaves (document 02, M-103): "The result passes the check from the same start, yields the same records in order but for
-- moved links, and has no filler after the first record." "Bytes before the start are copied."
use Rattle.std.specs.Prelude.{ℕ, ◌≡◌, ◌⊎◌, List, [], ◌∷◌, length, take, Some, Ok, IsOk}
use Rattle.constants.specs.Raw.{nesting_role_of}
use Rattle.constants.specs.declared.Role.{Role}
use Rattle.constants.specs.declared.Role.TheVariants.{Neither, Opens, Closes}
use Rattle.iter.specs.Reading.{Rec, Last, read_of}
use Rattle.links.specs.Links.{links_of, with_links}
use Rattle.links.specs.declared.Links.{Links}
use Rattle.check_nesting.specs.Check.{check_of}
use Rattle.squeezing.specs.Squeeze.{squeezed, squeeze_of}

-- The records of the stream are rs, those of the result ts. One of rs at x is the one of ts at y: they have the same place in their rows.
abbrev pub SameRecord : List Rec → List Rec → ℕ → ℕ → Type 0
SameRecord [] ts x y = ⊥
SameRecord (r ∷ rs) [] x y = ⊥
SameRecord (r ∷ rs) (t ∷ ts) x y = ((r.index ≡ x) × (t.index ≡ y)) ⊎ SameRecord rs ts x y

-- "moved to the new positions; 0 stays"
abbrev pub LinkMoved : List Rec → List Rec → ℕ → ℕ → Type 0
LinkMoved rs ts x y = ((x ≡ 0) × (y ≡ 0)) ⊎ SameRecord rs ts x y

-- an opener, but for its links, which name the new positions of the records that they named
pub record OpenerKept (rs ts : List Rec) (bytes bytes' : List ℕ) : Type 0 where
  pub links : Links
  pub links' : Links
  pub read : links_of bytes ≡ Some links
  pub read' : links_of bytes' ≡ Some links'
  pub parent : LinkMoved rs ts links.parent links'.parent
  pub end : LinkMoved rs ts links.end links'.end
  pub next : LinkMoved rs ts links.next links'.next
  pub same : bytes' ≡ with_links links' bytes

-- "the same records .. but for moved links"
abbrev pub KeptBy : Role → List Rec → List Rec → List ℕ → List ℕ → Type 0
KeptBy Opens rs ts bytes bytes' = OpenerKept rs ts bytes bytes'
KeptBy Closes rs ts bytes bytes' = bytes' ≡ bytes
KeptBy Neither rs ts bytes bytes' = bytes' ≡ bytes

-- "in order": the records that are left of both rows, one by one
abbrev pub EachKept : List Rec → List Rec → List Rec → List Rec → Type 0
EachKept rs ts [] [] = Unit
EachKept rs ts (r ∷ left) (t ∷ left') = KeptBy (nesting_role_of r.bytes) rs ts r.bytes t.bytes × EachKept rs ts left left'
EachKept rs ts [] (t ∷ left') = ⊥
EachKept rs ts (r ∷ left) [] = ⊥

-- "no filler after the first record"
abbrev pub NoFillers : List Rec → Type 0
NoFillers [] = Unit
NoFillers (t ∷ ts) = (t.fillers ≡ 0) × NoFillers ts

abbrev pub NoFillersBehind : List Rec → Last → Type 0
NoFillersBehind [] last = Unit
NoFillersBehind (t ∷ ts) last = NoFillers ts × (last.fillers ≡ 0)

pub record Squeezes (s : List ℕ) (start : ℕ) (t : List ℕ) : Type 0 where
  pub passes : IsOk (check_of t start)
  pub records : EachKept (read_of s start).recs (read_of t start).recs (read_of s start).recs (read_of t start).recs
  pub no_fillers : NoFillersBehind (read_of t start).recs (read_of t start).last
  pub before : take start t ≡ take start s
  -- and squeezing it again changes nothing more
  pub again : squeeze_of t start (length t) ≡ Ok (length t)
  pub same : squeezed t start ≡ t
