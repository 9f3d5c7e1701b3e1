-- Name (document 01, "Name"): decode's refusals; whether there is a name, and the part of the lent record that it is.
use Rattle.std.specs.Prelude.{ℕ, List, Option, Result, Ok, Err}
use Rattle.common.specs.Reader.{Read}
use Rattle.common.specs.declared.Refusal.{Refusal}
use Rattle.names.specs.declared.Part.{Part}
use Rattle.records.specs.Name.{name_in}
use Rattle.symbol.specs.Decode.{decode}

-- what is found in a value that was read, or the refusal
abbrev pub answered : {A B : Type 0} → (A → B) → Read A → Result B Refusal
answered find (Ok r) = Ok (find r.0)
answered find (Err e) = Err e

unfoldable pub name_of : List ℕ → Result (Option Part) Refusal
name_of s = answered name_in (decode s)
