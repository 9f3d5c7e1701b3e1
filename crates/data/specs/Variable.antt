-- The records of register variables, constants and types (cvinfo.h, the structure named at each).
use Rattle.std.specs.Prelude.{ℕ, eqb}
use Rattle.common.specs.Reader.{Reader, ◌>>=◌, done, u16, u32}
use Rattle.names.specs.Name.{symbol_name}
use Rattle.variant.specs.Numeric.{numeric}
use Rattle.records.specs.declared.SymbolData.{SymbolData}
use Rattle.records.specs.declared.SymbolData.TheVariants.{RegisterVariable, Constant, UserDefinedType}

-- REGSYM
abbrev pub register_variable : ℕ → Reader SymbolData
register_variable kind = do
  type ← u32
  register ← u16
  name ← symbol_name kind
  done (RegisterVariable (record { type_index = type; register = register; name = name }))

-- CONSTSYM; managed only for S_MANCONSTANT (0x112d)
abbrev pub constant : ℕ → Reader SymbolData
constant kind = do
  type ← u32
  value ← numeric
  name ← symbol_name kind
  done (Constant (record { managed = eqb kind 0x112d; type_index = type; value = value; name = name }))

-- UDTSYM
abbrev pub user_defined_type : ℕ → Reader SymbolData
user_defined_type kind = do
  type ← u32
  name ← symbol_name kind
  done (UserDefinedType (record { type_index = type; name = name }))
