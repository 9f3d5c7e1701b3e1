-- The records of variables that lie in memory (cvinfo.h, the structure named at each).
use Rattle.std.specs.Prelude.{ℕ, Bool, ◌||◌, eqb}
use Rattle.common.specs.Reader.{Reader, ◌>>=◌, done, u32}
use Rattle.names.specs.Name.{symbol_name}
use Rattle.records.specs.Field.{place}
use Rattle.records.specs.declared.SymbolData.{SymbolData}
use Rattle.records.specs.declared.SymbolData.TheVariants.{Data, ThreadStorage}

-- S_GDATA32, S_GDATA32_ST, S_GMANDATA, S_GMANDATA_ST
abbrev pub global_data : ℕ → Bool
global_data kind = eqb kind 0x110d || eqb kind 0x1008 || eqb kind 0x111d || eqb kind 0x1021

-- S_LMANDATA, S_LMANDATA_ST, S_GMANDATA, S_GMANDATA_ST
abbrev pub managed_data : ℕ → Bool
managed_data kind = eqb kind 0x111c || eqb kind 0x1020 || eqb kind 0x111d || eqb kind 0x1021

-- DATASYM32
abbrev pub data_item : ℕ → Reader SymbolData
data_item kind = do
  type ← u32
  offset ← place
  name ← symbol_name kind
  done
      (Data
      (record { global = global_data kind; managed = managed_data kind; type_index = type; offset = offset; name = name }))

-- S_GTHREAD32, S_GTHREAD32_ST
abbrev pub global_thread : ℕ → Bool
global_thread kind = eqb kind 0x1113 || eqb kind 0x100f

-- THREADSYM32
abbrev pub thread_storage : ℕ → Reader SymbolData
thread_storage kind = do
  type ← u32
  offset ← place
  name ← symbol_name kind
  done (ThreadStorage (record { global = global_thread kind; type_index = type; offset = offset; name = name }))
