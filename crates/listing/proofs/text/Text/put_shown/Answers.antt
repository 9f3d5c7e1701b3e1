-- `listing::text::Text::put_shown` meets its contract.
use Rattle.std.proofs.Common.{rules}
use Rattle.std.proofs.lemmas.List.Edits.{map_over_more}
use Rattle.listing.specs.Listing.{shown_byte}
use Rattle.listing.proofs.text.Text.put_shown.Goals as goal

pub loop-b-preserved : goal.loop-b-preserved
loop-b-preserved c = search (rules, map_over_more shown_byte)
