-- How the module was compiled (cvinfo.h, the structure named at each).
use Rattle.std.specs.Prelude.{ℕ, Bool, cond, eqb, Option, None, Some}
use Rattle.common.specs.Reader.{Reader, ◌>>=◌, done, u8, u16}
use Rattle.names.specs.Name.{symbol_name}
use Rattle.constants.specs.Language.{source_language}
use Rattle.constants.specs.Processor.{cpu_type_of}
use Rattle.records.specs.Flags.{compile_flags}
use Rattle.records.specs.declared.CompilerVersion.{CompilerVersion}
use Rattle.records.specs.declared.SymbolData.{SymbolData}
use Rattle.records.specs.declared.SymbolData.TheVariants.{CompileFlags}

-- qfe u16 (COMPILESYM3 only)
abbrev pub qfe : Bool → Reader (Option ℕ)
qfe compile3 = cond compile3 (u16 >>= λ x. done (Some x)) (done None)

abbrev pub version : Bool → Reader CompilerVersion
version compile3 = do
  major ← u16
  minor ← u16
  build ← u16
  fix ← qfe compile3
  done (record { major = major; minor = minor; build = build; qfe = fix })

-- COMPILESYM and COMPILESYM3, which differ in their versions and in that some flags are COMPILESYM3's alone. In cvinfo.h the language and
-- the flags are bits of one u32; pdb reads a byte, a u16 of flags, and a byte that it ignores. The block of strings that cvinfo.h has
-- after the name is not read.
abbrev pub compile_with : Bool → ℕ → Reader SymbolData
compile_with compile3 kind = do
  language ← u8
  flags ← u16
  ignored ← u8
  machine ← u16
  frontend ← version compile3
  backend ← version compile3
  name ← symbol_name kind
  done
      (CompileFlags
      (record {
        language = source_language language;
        flags = compile_flags flags compile3;
        cpu_type = cpu_type_of machine;
        frontend_version = frontend;
        backend_version = backend;
        version_string = name;
      }))

-- S_COMPILE3 is a COMPILESYM3, S_COMPILE2 and S_COMPILE2_ST are COMPILESYM
abbrev pub compile : ℕ → Reader SymbolData
compile kind = compile_with (eqb kind 0x113c) kind
