-- What a call leaves in the words that were lent to it.
use Rattle.std.specs.Prelude.{ℕ, List, ◌++◌, length, drop}

-- words from place 0 on; every other word stays as it was
unfoldable pub written : List ℕ → List ℕ → List ℕ
written words before = words ++ drop (length words) before
