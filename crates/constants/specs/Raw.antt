-- Kind, opener, closer (document 01): never refuse, at any length; below 2 bytes the kind is 0.
use Rattle.std.specs.Prelude.{ℕ, List, cond, length, ltb}
use Rattle.common.specs.Bytes.{le}
use Rattle.constants.specs.Kind.{nesting_role}
use Rattle.constants.specs.declared.Role.{Role}

unfoldable pub raw_kind : List ℕ → ℕ
raw_kind s = cond (ltb (length s) 2) 0 (le 2 s 0)

-- What the check and the finders take a record for ("a scope opener": a record of a kind that the check takes as an opener).
unfoldable pub nesting_role_of : List ℕ → Role
nesting_role_of s = nesting_role (raw_kind s)
