-- Flags: a bit each (cvinfo.h, the structure named at each).
use Rattle.std.specs.Prelude.{ℕ, ◌/◌, ◌%◌, ◌^◌, Bool, ◌&&◌, eqb}
use Rattle.records.specs.declared.flags.PublicFlags.{PublicFlags}
use Rattle.records.specs.declared.flags.ProcedureFlags.{ProcedureFlags}
use Rattle.records.specs.declared.flags.LocalVariableFlags.{LocalVariableFlags}
use Rattle.records.specs.declared.flags.ExportSymbolFlags.{ExportSymbolFlags}
use Rattle.records.specs.declared.flags.SeparatedCodeFlags.{SeparatedCodeFlags}
use Rattle.records.specs.declared.flags.CompileFlags.{CompileFlags}

-- whether bit k of x is set
abbrev pub bit : ℕ → ℕ → Bool
bit k x = eqb (x / 2 ^ k % 2) 1

-- CV_PUBSYMFLAGS
abbrev pub public_flags : ℕ → PublicFlags
public_flags x =
    record {
      code = bit 0 x;
      function = bit 1 x;
      managed = bit 2 x;
      msil = bit 3 x;
    }

-- CV_PROCFLAGS
abbrev pub procedure_flags : ℕ → ProcedureFlags
procedure_flags x =
    record {
      nofpo = bit 0 x;
      int = bit 1 x;
      far = bit 2 x;
      never = bit 3 x;
      notreached = bit 4 x;
      cust_call = bit 5 x;
      noinline = bit 6 x;
      optdbginfo = bit 7 x;
    }

-- CV_LVARFLAGS as pdb has it: cvinfo.h has fIsAggregated at bit 4, and the six after isaggregate one bit higher
abbrev pub local_flags : ℕ → LocalVariableFlags
local_flags x =
    record {
      isparam = bit 0 x;
      addrtaken = bit 1 x;
      compgenx = bit 2 x;
      isaggregate = bit 3 x;
      isaliased = bit 4 x;
      isalias = bit 5 x;
      isretvalue = bit 6 x;
      isoptimizedout = bit 7 x;
      isenreg_glob = bit 8 x;
      isenreg_stat = bit 9 x;
    }

-- EXPORTSYM
abbrev pub export_flags : ℕ → ExportSymbolFlags
export_flags x =
    record {
      constant = bit 0 x;
      «data» = bit 1 x;
      «private» = bit 2 x;
      no_name = bit 3 x;
      ordinal = bit 4 x;
      forwarder = bit 5 x;
    }

-- CV_SEPCODEFLAGS
abbrev pub separated_flags : ℕ → SeparatedCodeFlags
separated_flags x =
    record {
      islexicalscope = bit 0 x;
      returnstoparent = bit 1 x;
    }

-- COMPILESYM and COMPILESYM3, the bits after iLanguage; bits 9 to 11 are false unless S_COMPILE3
abbrev pub compile_flags : ℕ → Bool → CompileFlags
compile_flags x compile3 =
    record {
      edit_and_continue = bit 0 x;
      no_debug_info = bit 1 x;
      link_time_codegen = bit 2 x;
      no_data_align = bit 3 x;
      managed = bit 4 x;
      security_checks = bit 5 x;
      hot_patch = bit 6 x;
      cvtcil = bit 7 x;
      msil_module = bit 8 x;
      sdl = bit 9 x && compile3;
      pgo = bit 10 x && compile3;
      exp_module = bit 11 x && compile3;
    }
