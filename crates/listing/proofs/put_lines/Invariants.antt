-- The measure is the number of bytes that are left.
use Rattle.std.proofs.Common.{◌-◌, length}
use Rattle.listing.proofs.Listings.{Listing}
use Rattle.listing.proofs.put_lines.Given as goal

abbrev pub invariant-loop-r : goal.invariant-loop-r
invariant-loop-r l = Listing l.s l.initial.text l.text l.at

abbrev pub decreases-loop-r : goal.decreases-loop-r
decreases-loop-r l = length l.s - l.at
