-- The squeeze program (document 02, M-103: "squeezes standard input, from 4, .. reading and refusing as the listing does").
use Rattle.std.specs.Prelude.{ℕ, List, cond, length, ltb, Result, Err}
use Rattle.common.specs.declared.Refusal.{Refusal}
use Rattle.common.specs.declared.Refusal.TheVariants.{TooLong}
use Rattle.listing.specs.Listing.{max_listed, listed_from}
use Rattle.squeezing.specs.Squeeze.{squeeze_of}

-- above 65,536 bytes `refused 5 0`, as the listing; else it squeezes from 4
abbrev pub squeeze_listed_of : List ℕ → ℕ → Result ℕ Refusal
squeeze_listed_of s room = cond (ltb max_listed (length s)) (Err TooLong) (squeeze_of s listed_from room)
