-- References to what another module holds (cvinfo.h: REFSYM2, and REFSYM for kinds below 0x1100).
use Rattle.std.specs.Prelude.{ℕ, Bool, cond, ◌||◌, eqb, ltb, Option, None, Some}
use Rattle.common.specs.Reader.{Reader, ◌>>=◌, done, u32}
use Rattle.names.specs.Name.{cstring, symbol_name}
use Rattle.names.specs.declared.Part.{Part}
use Rattle.records.specs.Field.{module_index}
use Rattle.records.specs.declared.SymbolData.{SymbolData}
use Rattle.records.specs.declared.SymbolData.TheVariants.{ProcedureReference, DataReference, AnnotationReference}

-- The name of a procedure or data reference: kinds below 0x1100 (S_ST_MAX) read no name and have none, the others bytes up to a zero.
-- Those below are REFSYM in cvinfo.h: it ends in a fill u16, and a hidden name may follow the record; pdb reads neither.
abbrev pub optional_name : ℕ → Reader (Option Part)
optional_name kind = cond (ltb kind 0x1100) (done None) (cstring >>= λ name. done (Some name))

-- S_PROCREF, S_PROCREF_ST; the local ones are S_LPROCREF, S_LPROCREF_ST
abbrev pub global_reference : ℕ → Bool
global_reference kind = eqb kind 0x1125 || eqb kind 0x0400

abbrev pub procedure_reference : ℕ → Reader SymbolData
procedure_reference kind = do
  sum ← u32
  symbol ← u32
  imod ← module_index
  name ← optional_name kind
  done
      (ProcedureReference
      (record {
        global = global_reference kind;
        sum_name = sum;
        symbol_index = symbol;
        «module» = imod;
        name = name;
      }))

abbrev pub data_reference : ℕ → Reader SymbolData
data_reference kind = do
  sum ← u32
  symbol ← u32
  imod ← module_index
  name ← optional_name kind
  done (DataReference (record { sum_name = sum; symbol_index = symbol; «module» = imod; name = name }))

-- always with a name, of the sort that its kind has
abbrev pub annotation_reference : ℕ → Reader SymbolData
annotation_reference kind = do
  sum ← u32
  symbol ← u32
  imod ← module_index
  name ← symbol_name kind
  done (AnnotationReference (record { sum_name = sum; symbol_index = symbol; «module» = imod; name = name }))
