-- A chain holds up to 64 positions and a count; unused places are 0 (document 01).
use Rattle.std.specs.Prelude.{ℕ, ◌-◌, List, ◌++◌, length, replicate}

-- the most scopes that lie in one another: one more is 9
abbrev pub max_depth : ℕ
max_depth = 64

-- the places of a list of positions
abbrev pub places : List ℕ → List ℕ
places at = at ++ replicate (max_depth - length at) 0
