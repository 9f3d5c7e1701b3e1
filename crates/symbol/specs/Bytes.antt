-- Name (document 01, "Name"): "the part of the lent record that it is; the empty part where there is none"
use Rattle.std.specs.Prelude.{ℕ, ◌≡◌, List, [], Option, None, Some, Result, Ok, Err}
use Rattle.std.specs.Borrow.{Bor}
use Rattle.common.specs.declared.Refusal.{Refusal}
use Rattle.names.specs.Lent.{IsPart}
use Rattle.names.specs.declared.Part.{Part}

-- empty also where name refuses
abbrev pub IsName : Bor (List ℕ) → Result (Option Part) Refusal → Bor (List ℕ) → Type 0
IsName lent (Ok None) r = r.now ≡ []
IsName lent (Ok (Some p)) r = IsPart lent p r
IsName lent (Err e) r = r.now ≡ []
