-- Blocks and separated code (cvinfo.h, the structure named at each). The parent stays a plain number in both.
use Rattle.std.specs.Prelude.{ℕ}
use Rattle.common.specs.Reader.{Reader, ◌>>=◌, done, u16, u32}
use Rattle.names.specs.Name.{symbol_name}
use Rattle.records.specs.Field.{place}
use Rattle.records.specs.Flags.{separated_flags}
use Rattle.records.specs.declared.SymbolData.{SymbolData}
use Rattle.records.specs.declared.SymbolData.TheVariants.{Block, SeparatedCode}

-- BLOCKSYM32
abbrev pub block : ℕ → Reader SymbolData
block kind = do
  parent ← u32
  end ← u32
  len ← u32
  offset ← place
  name ← symbol_name kind
  done (Block (record { parent = parent; end = end; len = len; offset = offset; name = name }))

-- SEPCODESYM; each offset stands apart from its section
abbrev pub separated_code : Reader SymbolData
separated_code = do
  parent ← u32
  end ← u32
  len ← u32
  flags ← u32
  offset ← u32
  parent_offset ← u32
  section ← u16
  parent_section ← u16
  done
      (SeparatedCode
      (record {
        parent = parent;
        end = end;
        len = len;
        flags = separated_flags flags;
        offset = record { offset = offset; section = section };
        parent_offset = record { offset = parent_offset; section = parent_section };
      }))
