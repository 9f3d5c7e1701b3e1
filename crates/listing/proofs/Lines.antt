-- How long the lines are.
-- Assumes nothing.
use Rattle.std.proofs.Common.{ℕ, ◌+◌, ◌≤◌, ◌^◌, ◌<◌, ◌≡◌, List, length, arith, length-append, Option, None, Some, Result, Ok, Err}
use Rattle.std.proofs.Math.ListN.{length-map}
use Rattle.std.proofs.lemmas.Fmt.{length-decimal-le}
use Rattle.std.proofs.lemmas.Grind.{common_steps}
use Rattle.std.specs.Fmt.{decimal}
use Rattle.common.specs.declared.Refusal.{Refusal}
use Rattle.common.specs.Refused.{refusal_number}
use Rattle.names.specs.Name.{bytes_of}
use Rattle.names.specs.declared.Part.{Part}
use Rattle.symbol.specs.Name.{name_of}
use Rattle.listing.specs.Listing.{shown_byte, name_shown, line_of}

pub line_length : (index kind : ℕ) (bytes : List ℕ) → length (line_of index kind bytes) ≡ length (decimal index) + 7 + length (name_shown bytes (name_of bytes))
unfolding line_of
line_length index kind bytes = simp length-append (omega arith)

-- a number of 64 bits has 20 digits at most
pub decimal_most : {n : ℕ} → n < 2 ^ 64 → length (decimal n) ≤ 20
decimal_most fits = length-decimal-le 20 _ (omega arith) (omega arith) fits

number_most : (e : Refusal) → length (decimal (refusal_number e)) ≤ 20
number_most e = decimal_most (grind arith)

part_most : (bytes : List ℕ) (p : Part) → length (bytes_of bytes p) ≤ length bytes
unfolding bytes_of
part_most bytes p = grind (arith, common_steps)

name_most : (bytes : List ℕ) (n : Result (Option Part) Refusal) → length (name_shown bytes n) ≤ 21 + length bytes
name_most bytes (Ok None) = omega arith
name_most bytes (Ok (Some p)) = omega (arith, length-map (bytes_of bytes p) shown_byte, part_most bytes p)
name_most bytes (Err e) = omega (arith, number_most e)

pub line_most : (index kind : ℕ) (bytes : List ℕ) → index < 2 ^ 64 → length (line_of index kind bytes) ≤ 48 + length bytes
line_most index kind bytes fits = omega (arith, line_length index kind bytes, decimal_most fits, name_most bytes (name_of bytes))
