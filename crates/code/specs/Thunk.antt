-- Thunks (cvinfo.h, the structure named at each).
use Rattle.std.specs.Prelude.{ℕ, cond, eqb}
use Rattle.common.specs.Reader.{Reader, ◌>>=◌, done, u8, u16, u32}
use Rattle.names.specs.Name.{cstring, symbol_name}
use Rattle.records.specs.Field.{index, place}
use Rattle.records.specs.declared.ThunkKind.{ThunkKind}
use Rattle.records.specs.declared.ThunkKind.TheVariants.{NoType, Adjustor, VCall, PCode, Load, Unknown}
use Rattle.records.specs.declared.SymbolData.{SymbolData}
use Rattle.records.specs.declared.SymbolData.TheVariants.{Thunk}

-- a delta, and a target that ends in a zero whatever the kind of the record
abbrev pub adjustor : Reader ThunkKind
adjustor = do
  delta ← u16
  target ← cstring
  done (Adjustor (record { delta = delta; target = target }))

-- the place in the table of virtual functions
abbrev pub vcall : Reader ThunkKind
vcall = do
  entry ← u16
  done (VCall entry)

-- what stands behind the name of a thunk, by its ordinal (THUNK_ORDINAL). cvinfo.h has 5 and 6 too, for trampolines only; pdb takes them as unknown.
abbrev pub thunk_kind : ℕ → Reader ThunkKind
thunk_kind code =
    cond (eqb code 0) (done NoType)  -- THUNK_ORDINAL_NOTYPE
    (cond (eqb code 1) adjustor  -- THUNK_ORDINAL_ADJUSTOR
    (cond (eqb code 2) vcall  -- THUNK_ORDINAL_VCALL
    (cond (eqb code 3) (done PCode)  -- THUNK_ORDINAL_PCODE
    (cond (eqb code 4) (done Load)  -- THUNK_ORDINAL_LOAD
    (done (Unknown code))))))

-- THUNKSYM32
abbrev pub thunk : ℕ → Reader SymbolData
thunk kind = do
  parent ← index
  end ← u32
  next ← index
  offset ← place
  len ← u16
  code ← u8
  name ← symbol_name kind
  variant ← thunk_kind code
  done
      (Thunk
      (record { parent = parent; end = end; next = next; offset = offset; len = len; kind = variant; name = name }))
