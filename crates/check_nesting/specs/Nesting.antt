-- What the check asks of records (document 01, "Check"), as a relation.
use Rattle.std.specs.Prelude.{◌<◌, ◌≡◌, List, [], ◌∷◌, length, Some}
use Rattle.constants.specs.declared.Role.TheVariants.{Neither, Opens, Closes}
use Rattle.constants.specs.Raw.{nesting_role_of}
use Rattle.iter.specs.Reading.{Rec, Ending, ends}
use Rattle.chain.specs.Chain.{max_depth}
use Rattle.links.specs.Links.{links_of}
use Rattle.links.specs.declared.Links.{Links}
use Rattle.check_nesting.specs.declared.act.Open.{Open}
use Rattle.check_nesting.specs.Stack.{open_scope, inner_index}

-- Records nest, with a stack of openers open in front of them: they close these, and each opener among them, innermost first.
pub data Nests : List Rec → List Open → Type 0 where
  done : Nests [] []
  passes : {r : Rec} {rs : List Rec} {st : List Open} → nesting_role_of r.bytes ≡ Neither → Nests rs st → Nests (r ∷ rs) st
  opens : {r : Rec} {rs : List Rec} {st : List Open} {l : Links} → nesting_role_of r.bytes ≡ Opens → links_of r.bytes ≡ Some l →
      0 < r.index → l.parent ≡ inner_index st → length st < max_depth → Nests rs (open_scope r.index l ∷ st) → Nests (r ∷ rs) st
  closes : {r : Rec} {rs : List Rec} {o : Open} {st : List Open} → nesting_role_of r.bytes ≡ Closes → o.end ≡ r.index → Nests rs st → Nests (r ∷ rs) (o ∷ st)

-- Reading ends at End, and its records nest. The check passes exactly where this holds of the reading from its start, with nothing open
-- (the laws `good_nests` and `nests_good` of proofs/Nesting.antt).
pub record NestsIn (ending : Ending) (rs : List Rec) (st : List Open) : Type 0 where
  pub at_end : ending ≡ ends
  pub nests : Nests rs st
