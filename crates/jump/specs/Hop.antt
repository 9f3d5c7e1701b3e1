-- What the jump finder does at a record, and where a jump lands (document 01, "Jump finder").
use Rattle.std.specs.Prelude.{ℕ, List, cond, ◌&&◌, ltb, leb, eqb, Option, None, Some, Result, Ok, Err}
use Rattle.common.specs.declared.Refusal.{Refusal}
use Rattle.common.specs.declared.Refusal.TheVariants.{TooDeep, UnusableLink, NothingThere}
use Rattle.constants.specs.declared.Role.{Role}
use Rattle.constants.specs.declared.Role.TheVariants.{Neither, Opens, Closes}
use Rattle.iter.specs.Step.{scan_of}
use Rattle.iter.specs.declared.Next.{Next}
use Rattle.iter.specs.declared.Record.{Record}
use Rattle.iter.specs.declared.Next.TheVariants as N
use Rattle.constants.specs.Kind.{closes, nesting_role}
use Rattle.constants.specs.Raw.{nesting_role_of}
use Rattle.chain.specs.Chain.{max_depth}
use Rattle.links.specs.Links.{links_of}
use Rattle.links.specs.declared.Links.{Links}
use Rattle.jump.specs.declared.hop.Hop.{Hop}
use Rattle.jump.specs.declared.hop.Hop.TheVariants as H

-- An opener that decode refuses, or whose end field is below the position after it, is 13. If i is above the end field, the scope
-- is jumped over; otherwise the opener is pushed, 9 for the 65th.
abbrev pub open_hop : Option Links → ℕ → ℕ → ℕ → Result Hop Refusal
open_hop None next i depth = Err UnusableLink
open_hop (Some l) next i depth =
    cond (ltb l.end next) (Err UnusableLink)
    (cond (ltb l.end i) (Ok (H.Over l.end))
    (cond (leb max_depth depth) (Err (TooDeep 0)) (Ok H.Push)))

-- A closer before i that wasn't jumped to is 13.
abbrev pub hop_of_role : Role → List ℕ → ℕ → ℕ → ℕ → Result Hop Refusal
hop_of_role Opens bytes next i depth = open_hop (links_of bytes) next i depth
hop_of_role Closes bytes next i depth = Err UnusableLink
hop_of_role Neither bytes next i depth = Ok H.Stay

-- As walking: index i answers the stack; a larger index is 14; then its role decides.
unfoldable pub hop_of : ℕ → ℕ → ℕ → List ℕ → ℕ → Result Hop Refusal
hop_of i index next bytes depth =
    cond (eqb index i) (Ok H.Found)
    (cond (ltb i index) (Err NothingThere)
    (hop_of_role (nesting_role_of bytes) bytes next i depth))

-- The next step is made from the end field and must yield a closer at exactly that position (End or another record 13). The step's
-- own refusal is passed on.
abbrev pub land_on : ℕ → Result Next Refusal → Result Record Refusal
land_on end (Err e) = Err e
land_on end (Ok (N.End p)) = Err UnusableLink
land_on end (Ok (N.Record r)) = cond (eqb r.index end && closes (nesting_role r.kind)) (Ok r) (Err UnusableLink)

unfoldable pub land_of : List ℕ → ℕ → Result Record Refusal
land_of s end = land_on end (scan_of s end).step
