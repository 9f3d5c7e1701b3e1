-- The records of local variables (cvinfo.h, the structure named at each).
use Rattle.std.specs.Prelude.{ℕ}
use Rattle.common.specs.Reader.{Reader, ◌>>=◌, done, u16, u32, i32}
use Rattle.names.specs.Name.{symbol_name}
use Rattle.records.specs.Flags.{local_flags}
use Rattle.records.specs.declared.SymbolData.{SymbolData}
use Rattle.records.specs.declared.SymbolData.TheVariants.{Local, RegisterRelative}

-- LOCALSYM
abbrev pub local : ℕ → Reader SymbolData
local kind = do
  type ← u32
  flags ← u16
  name ← symbol_name kind
  done (Local (record { type_index = type; flags = local_flags flags; name = name }))

-- REGREL32; its offset is unsigned in cvinfo.h, and pdb reads it signed
abbrev pub register_relative : ℕ → Reader SymbolData
register_relative kind = do
  offset ← i32
  type ← u32
  register ← u16
  name ← symbol_name kind
  done (RegisterRelative (record { offset = offset; type_index = type; register = register; name = name }))
