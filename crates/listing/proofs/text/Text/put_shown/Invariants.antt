-- The bytes before the index are shown, and those from it on are as they were put.
use Rattle.std.proofs.Common.{◌≡◌, ◌++◌, map, take, drop}
use Rattle.listing.specs.Listing.{shown_byte}
use Rattle.listing.proofs.text.Text.put_shown.Given as goal

abbrev pub invariant-loop-b : goal.invariant-loop-b
invariant-loop-b l = l.b-items ≡ map shown_byte (take l.b-index l.initial.b-items) ++ drop l.b-index l.initial.b-items
