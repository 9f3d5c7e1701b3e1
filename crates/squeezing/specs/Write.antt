-- What the writing loop asks of the stack of open openers: where they land, the innermost first.
use Rattle.std.specs.Prelude.{ℕ, List, [], ◌∷◌}

-- the first of a list, 0 where it is empty
abbrev pub innermost : List ℕ → ℕ
innermost [] = 0
innermost (place ∷ places) = place
