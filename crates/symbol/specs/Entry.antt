-- Register entry (document 01, "Register entry"): decode's refusals; 14 if the record is no register list or k is not below its count; else the
-- register and the part that is its name.
use Rattle.std.specs.Prelude.{ℕ, List, cond, ltb, Result, Ok, Err}
use Rattle.common.specs.Reader.{Read}
use Rattle.common.specs.declared.Refusal.{Refusal}
use Rattle.common.specs.declared.Refusal.TheVariants.{NothingThere}
use Rattle.constants.specs.Raw.{raw_kind}
use Rattle.records.specs.declared.SymbolData.{SymbolData}
use Rattle.records.specs.declared.SymbolData.TheVariants as D
use Rattle.registers.specs.Entries.{entry_at}
use Rattle.registers.specs.declared.entry.RegisterEntry.{RegisterEntry}
use Rattle.symbol.specs.Decode.{decode}
use Rattle.symbol.specs.Name.{answered}

-- the entry k of a decoded record
abbrev pub entry_in : List ℕ → ℕ → SymbolData → Result RegisterEntry Refusal
entry_in s k (D.MultiRegisterVariable x) = cond (ltb k x.count) (answered (λ entry. entry) (entry_at (raw_kind s) k s x.first)) (Err NothingThere)
entry_in s k _ = Err NothingThere

abbrev pub entry_by : List ℕ → ℕ → Read SymbolData → Result RegisterEntry Refusal
entry_by s k (Ok r) = entry_in s k r.0
entry_by s k (Err e) = Err e

unfoldable pub register_entry : List ℕ → ℕ → Result RegisterEntry Refusal
register_entry s k = entry_by s k (decode s)
