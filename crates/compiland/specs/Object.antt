-- The records about the module itself (cvinfo.h, the structure named at each).
use Rattle.std.specs.Prelude.{ℕ}
use Rattle.common.specs.Reader.{Reader, ◌>>=◌, done, u32}
use Rattle.names.specs.Name.{symbol_name}
use Rattle.records.specs.declared.SymbolData.{SymbolData}
use Rattle.records.specs.declared.SymbolData.TheVariants.{ObjName, UsingNamespace, BuildInfo}

-- OBJNAMESYM
abbrev pub obj_name : ℕ → Reader SymbolData
obj_name kind = do
  signature ← u32
  name ← symbol_name kind
  done (ObjName (record { signature = signature; name = name }))

-- UNAMESPACE
abbrev pub using_namespace : ℕ → Reader SymbolData
using_namespace kind = do
  name ← symbol_name kind
  done (UsingNamespace (record { name = name }))

-- BUILDINFOSYM
abbrev pub build_info : Reader SymbolData
build_info = do
  id ← u32
  done (BuildInfo (record { id = id }))
