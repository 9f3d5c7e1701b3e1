-- Register lists (cvinfo.h: MANYREGSYM, MANYREGSYM2), with entries as pdb reads them.
use Rattle.std.specs.Prelude.{ℕ, Bool, cond, ◌||◌, eqb, Ok}
use Rattle.common.specs.Reader.{Reader, ◌>>=◌, done, u8, u16, u32}
use Rattle.records.specs.declared.SymbolData.{SymbolData}
use Rattle.records.specs.declared.SymbolData.TheVariants.{MultiRegisterVariable}
use Rattle.registers.specs.Entries.{skip}

-- S_MANYREG2, S_MANYREG2_ST: MANYREGSYM2
abbrev pub long_list : ℕ → Bool
long_list kind = eqb kind 0x1117 || eqb kind 0x1014

-- the count of registers: u16 in MANYREGSYM2, u8 in MANYREGSYM
abbrev pub register_count : ℕ → Reader ℕ
register_count kind = cond (long_list kind) u16 u8

-- where reading stands; nothing is read
abbrev pub here : Reader ℕ
here s at = Ok (at, at)

-- the record keeps where the entries start, and all of them have to be read
abbrev pub multi_register_variable : ℕ → Reader SymbolData
multi_register_variable kind = do
  type ← u32
  count ← register_count kind
  first ← here
  _ ← skip kind count
  done (MultiRegisterVariable (record { type_index = type; count = count; first = first }))
