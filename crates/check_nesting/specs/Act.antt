-- What the check does with a record, with a stack of open openers (document 01, "Check").
use Rattle.std.specs.Prelude.{ℕ, List, [], ◌∷◌, cond, length, leb, eqb, Option, None, Some, Result, Ok, Err}
use Rattle.common.specs.declared.Refusal.{Refusal}
use Rattle.common.specs.declared.Refusal.TheVariants.{UnreadableOpener, OpenerAt0, WrongParent, TooDeep, NothingOpen, WrongEnd}
use Rattle.constants.specs.declared.Role.{Role}
use Rattle.constants.specs.declared.Role.TheVariants.{Neither, Opens, Closes}
use Rattle.constants.specs.Raw.{nesting_role_of}
use Rattle.iter.specs.Reading.{Rec}
use Rattle.chain.specs.Chain.{max_depth}
use Rattle.links.specs.Links.{links_of}
use Rattle.links.specs.declared.Links.{Links}
use Rattle.check_nesting.specs.declared.act.Open.{Open}
use Rattle.check_nesting.specs.declared.act.Act.{Act}
use Rattle.check_nesting.specs.declared.act.Act.TheVariants as A
use Rattle.check_nesting.specs.Stack.{open_scope, inner_index}

-- Opener: 6 if decode refuses it, 7 at position 0, 8 if its parent field is not the innermost open index (0 if none), 9 if it would be the 65th.
-- These carry the record's index, which for 7 is 0.
abbrev pub open_of : Option Links → ℕ → List Open → Result Act Refusal
open_of None index st = Err (UnreadableOpener index)
open_of (Some l) index st =
    cond (eqb index 0) (Err OpenerAt0)
    (cond (eqb l.parent (inner_index st))
    (cond (leb max_depth (length st)) (Err (TooDeep index)) (Ok (A.Push (open_scope index l))))
    (Err (WrongParent index)))

-- Closer: 10, then 11 if the innermost opener's end field is not this index; else that opener is closed.
abbrev pub close_of : ℕ → List Open → Result Act Refusal
close_of index [] = Err (NothingOpen index)
close_of index (o ∷ st) = cond (eqb o.end index) (Ok A.Pop) (Err (WrongEnd index))

abbrev pub act_of_role : Role → Rec → List Open → Result Act Refusal
act_of_role Opens r st = open_of (links_of r.bytes) r.index st
act_of_role Closes r st = close_of r.index st
act_of_role Neither r st = Ok A.Stay

unfoldable pub act_of : Rec → List Open → Result Act Refusal
act_of r st = act_of_role (nesting_role_of r.bytes) r st

-- a record by its index and its bytes (an act does not look at what was passed over)
abbrev pub rec_of : ℕ → List ℕ → Rec
rec_of index bytes = record { index = index; bytes = bytes; fillers = 0; filler_bytes = 0 }
