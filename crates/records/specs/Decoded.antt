-- What the decoder of one class answers, its own record, as decode answers it.
use Rattle.std.specs.Prelude.{ℕ, Result, Ok, Err}
use Rattle.common.specs.Reader.{Read}
use Rattle.records.specs.declared.SymbolData.{SymbolData}

abbrev pub decoded_as : {A : Type 0} → (A → SymbolData) → Read A → Read SymbolData
decoded_as variant (Ok r) = Ok (variant r.0, r.1)
decoded_as variant (Err e) = Err e
