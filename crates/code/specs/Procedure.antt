-- Procedures, and the labels in them (cvinfo.h, the structure named at each).
use Rattle.std.specs.Prelude.{ℕ, Bool, ◌||◌, eqb}
use Rattle.common.specs.Reader.{Reader, ◌>>=◌, done, u8, u32}
use Rattle.names.specs.Name.{symbol_name}
use Rattle.records.specs.Field.{index, place}
use Rattle.records.specs.Flags.{procedure_flags}
use Rattle.records.specs.declared.SymbolData.{SymbolData}
use Rattle.records.specs.declared.SymbolData.TheVariants.{Procedure, Label}

-- S_GPROC32, S_GPROC32_ST, S_GPROC32_ID
abbrev pub global_procedure : ℕ → Bool
global_procedure kind = eqb kind 0x1110 || eqb kind 0x100b || eqb kind 0x1147

-- S_LPROC32_DPC, S_LPROC32_DPC_ID
abbrev pub dpc_procedure : ℕ → Bool
dpc_procedure kind = eqb kind 0x1155 || eqb kind 0x1156

-- PROCSYM32
abbrev pub procedure : ℕ → Reader SymbolData
procedure kind = do
  parent ← index
  end ← u32
  next ← index
  len ← u32
  dbg_start ← u32
  dbg_end ← u32
  type ← u32
  offset ← place
  flags ← u8
  name ← symbol_name kind
  done
      (Procedure
      (record {
        global = global_procedure kind;
        dpc = dpc_procedure kind;
        parent = parent;
        end = end;
        next = next;
        len = len;
        dbg_start_offset = dbg_start;
        dbg_end_offset = dbg_end;
        type_index = type;
        offset = offset;
        flags = procedure_flags flags;
        name = name;
      }))

-- LABELSYM32
abbrev pub label : ℕ → Reader SymbolData
label kind = do
  offset ← place
  flags ← u8
  name ← symbol_name kind
  done (Label (record { offset = offset; flags = procedure_flags flags; name = name }))
