-- What nesting says of the first of the records, by its role.
-- Assumes nothing.
use Rattle.std.proofs.Common.{ℕ, ◌<◌, ◌≡◌, refl, sym, ap, subst, List, [], ◌∷◌, length, Some, Ok}
use Rattle.std.specs.Prelude.{IsSome}
use Rattle.constants.specs.Raw.{nesting_role_of}
use Rattle.constants.specs.declared.Role.TheVariants.{Neither, Opens, Closes}
use Rattle.iter.specs.Step.{scan_of}
use Rattle.iter.specs.Reading.{Rec, Reading, rec_at, read_of}
use Rattle.iter.specs.declared.Record.{Record}
use Rattle.iter.specs.declared.Next.TheVariants as N
use Rattle.iter.proofs.Reading.{read_by}
use Rattle.chain.specs.Chain.{max_depth}
use Rattle.links.specs.Links.{links_of}
use Rattle.links.specs.declared.Links.{Links}
use Rattle.check_nesting.specs.declared.act.Open.{Open}
use Rattle.check_nesting.specs.Stack.{open_scope, inner_index}
use Rattle.check_nesting.specs.Nesting.{Nests, done, passes, opens, closes}

-- the records that are read from where a step answers one
pub read_nests : (s : List ℕ) (at : ℕ) {it : Record} {st : List Open} → (scan_of s at).step ≡ Ok (N.Record it) → Nests (read_of s at).recs st →
    Nests (rec_at s (scan_of s at) it ∷ (read_of s it.next).recs) st
read_nests s at {it} {st} e n = subst (λ rs. Nests rs st) (ap (λ (r : Reading). r.recs) (read_by s at (Ok (N.Record it)) e)) n

pub none_open : {st : List Open} → Nests [] st → st ≡ []
none_open done = refl

pub rest_nests : {r : Rec} {rs : List Rec} {st : List Open} → Nests (r ∷ rs) st → (left : List Open) × Nests rs left
rest_nests (passes {st = st} o d) = (st, d)
rest_nests (opens {r = r} {st = st} {l = l} o g z t m d) = (open_scope r.index l ∷ st, d)
rest_nests (closes {st = st} o t d) = (st, d)

-- decode answers an opener
pub head_read : {r : Rec} {rs : List Rec} {st : List Open} → Nests (r ∷ rs) st → nesting_role_of r.bytes ≡ Opens → IsSome (links_of r.bytes)
head_read (passes o d) e = cc
head_read (opens o g z t m d) e = subst IsSome (sym g) refl
head_read (closes o t d) e = cc

pub head_passes : {r : Rec} {rs : List Rec} {st : List Open} → Nests (r ∷ rs) st → nesting_role_of r.bytes ≡ Neither → Nests rs st
head_passes (passes o d) e = d
head_passes (opens o g z t m d) e = cc
head_passes (closes o t d) e = cc

pub record Opened (r : Rec) (rs : List Rec) (st : List Open) : Type 0 where
  pub links : Links
  pub read : links_of r.bytes ≡ Some links
  pub above : 0 < r.index
  pub parent : links.parent ≡ inner_index st
  pub few : length st < max_depth
  pub rest : Nests rs (open_scope r.index links ∷ st)

pub head_opens : {r : Rec} {rs : List Rec} {st : List Open} → Nests (r ∷ rs) st → nesting_role_of r.bytes ≡ Opens → Opened r rs st
head_opens (passes o d) e = cc
head_opens (opens {l = l} o g z t m d) e = record { links = l; read = g; above = z; parent = t; few = m; rest = d }
head_opens (closes o t d) e = cc

pub record Closed (r : Rec) (rs : List Rec) (st : List Open) : Type 0 where
  pub inner : Open
  pub outer : List Open
  pub is : st ≡ inner ∷ outer
  pub end : inner.end ≡ r.index
  pub rest : Nests rs outer

pub head_closes : {r : Rec} {rs : List Rec} {st : List Open} → Nests (r ∷ rs) st → nesting_role_of r.bytes ≡ Closes → Closed r rs st
head_closes (passes o d) e = cc
head_closes (opens o g z t m d) e = cc
head_closes (closes {o = x} {st = st} o t d) e = record { inner = x; outer = st; is = refl; end = t; rest = d }
