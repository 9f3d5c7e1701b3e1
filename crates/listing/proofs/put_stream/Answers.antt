-- `listing::put_stream` meets its contract.
use Rattle.listing.proofs.Listings.{too_long, to_end, to_refusal}
use Rattle.listing.proofs.put_stream.Goals as goal

pub returns-then-s-gt-MAX_LISTED : goal.returns-then-s-gt-MAX_LISTED
returns-then-s-gt-MAX_LISTED c = too_long _ _ _ c.if-s-gt-MAX_LISTED.true c.put_refused.ensures

pub returns-in-Err : goal.returns-in-Err
returns-in-Err c =
    to_refusal _ _ _ c.if-s-gt-MAX_LISTED.false c.in-Err.ensures.lines _ _ c.in-Err.ensures.ending c.put_refused-in-Err.ensures

pub returns-in_default : goal.returns-in_default
returns-in_default c = to_end _ _ _ c.if-s-gt-MAX_LISTED.false c.in_default.ensures.lines c.in_default.ensures.ending
