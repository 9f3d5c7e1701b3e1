-- The open openers: a stack lists them, the innermost first.
use Rattle.std.specs.Prelude.{ℕ, List, [], ◌∷◌}
use Rattle.links.specs.declared.Links.{Links}
use Rattle.check_nesting.specs.declared.act.Open.{Open}

-- the scope that an opener opens: its index, and the end field of its links
abbrev pub open_scope : ℕ → Links → Open
open_scope index l = record { index = index; end = l.end }

-- the innermost open index, 0 if none
abbrev pub inner_index : List Open → ℕ
inner_index [] = 0
inner_index (o ∷ st) = o.index
