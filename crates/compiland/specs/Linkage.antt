-- What the linker writes (cvinfo.h, the structure named at each).
use Rattle.std.specs.Prelude.{ℕ}
use Rattle.common.specs.Reader.{Reader, ◌>>=◌, done, u16, u32}
use Rattle.names.specs.Name.{symbol_name}
use Rattle.records.specs.Field.{place, trampoline_of}
use Rattle.records.specs.Flags.{public_flags, export_flags}
use Rattle.records.specs.declared.SymbolData.{SymbolData}
use Rattle.records.specs.declared.SymbolData.TheVariants.{Public, Export, Trampoline}

-- PUBSYM32
abbrev pub public_symbol : ℕ → Reader SymbolData
public_symbol kind = do
  flags ← u32
  offset ← place
  name ← symbol_name kind
  done (Public (record { flags = public_flags flags; offset = offset; name = name }))

-- EXPORTSYM: its flags are single bits of a u16
abbrev pub export_symbol : ℕ → Reader SymbolData
export_symbol kind = do
  ordinal ← u16
  flags ← u16
  name ← symbol_name kind
  done (Export (record { ordinal = ordinal; flags = export_flags flags; name = name }))

-- TRAMPOLINE; each offset stands apart from its section
abbrev pub trampoline : Reader SymbolData
trampoline = do
  type ← u16
  size ← u16
  thunk_offset ← u32
  target_offset ← u32
  thunk_section ← u16
  target_section ← u16
  done
      (Trampoline
      (record {
        tramp_type = trampoline_of type;
        size = size;
        thunk = record { offset = thunk_offset; section = thunk_section };
        target = record { offset = target_offset; section = target_section };
      }))
