-- The opener that a climb stands at (document 01, "Climb finder").
use Rattle.std.specs.Prelude.{ℕ, List, cond, eqb, Option, None, Some, Result, Ok, Err}
use Rattle.common.specs.declared.Refusal.{Refusal}
use Rattle.common.specs.declared.Refusal.TheVariants.{UnusableLink, NothingThere}
use Rattle.constants.specs.declared.Role.{Role}
use Rattle.constants.specs.declared.Role.TheVariants.{Neither, Opens, Closes}
use Rattle.iter.specs.Step.{step_of}
use Rattle.iter.specs.Reading.{bytes_at}
use Rattle.iter.specs.declared.Next.{Next}
use Rattle.iter.specs.declared.Next.TheVariants as N
use Rattle.constants.specs.Kind.{nesting_role}
use Rattle.links.specs.Links.{links_of}
use Rattle.links.specs.declared.Links.{Links}

-- The parent field of the opener at a position: 13 if decode refuses it.
abbrev pub parent_of : Option Links → Result ℕ Refusal
parent_of None = Err UnusableLink
parent_of (Some l) = Ok l.parent

-- 14 if it is no opener
abbrev pub opener_in : List ℕ → Role → Result ℕ Refusal
opener_in bytes Opens = parent_of (links_of bytes)
opener_in bytes Closes = Err NothingThere
opener_in bytes Neither = Err NothingThere

-- Step's refusals; 14 if no record is yielded at exactly that position
abbrev pub opener_on : List ℕ → ℕ → Result Next Refusal → Result ℕ Refusal
opener_on s at (Err e) = Err e
opener_on s at (Ok (N.End p)) = Err NothingThere
opener_on s at (Ok (N.Record r)) =
    cond (eqb r.index at) (opener_in (bytes_at s r) (nesting_role r.kind)) (Err NothingThere)

unfoldable pub opener_of : List ℕ → ℕ → Result ℕ Refusal
opener_of s at = opener_on s at (step_of s at)
