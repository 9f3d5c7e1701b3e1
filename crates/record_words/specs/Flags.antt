-- The flags of a record as one word.
use Rattle.std.specs.Prelude.{ℕ, [], ◌∷◌}
use Rattle.records.specs.declared.flags.PublicFlags.{PublicFlags}
use Rattle.records.specs.declared.flags.ProcedureFlags.{ProcedureFlags}
use Rattle.records.specs.declared.flags.CompileFlags.{CompileFlags}
use Rattle.records.specs.declared.flags.ExportSymbolFlags.{ExportSymbolFlags}
use Rattle.records.specs.declared.flags.LocalVariableFlags.{LocalVariableFlags}
use Rattle.records.specs.declared.flags.SeparatedCodeFlags.{SeparatedCodeFlags}
use Rattle.words.specs.Word.{bits}

abbrev pub public_bits : PublicFlags → ℕ
public_bits f = bits (f.code ∷ f.function ∷ f.managed ∷ f.msil ∷ [])

abbrev pub procedure_bits : ProcedureFlags → ℕ
procedure_bits f =
    bits
    (f.nofpo ∷ f.int ∷ f.far ∷ f.never ∷ f.notreached ∷ f.cust_call ∷ f.noinline ∷ f.optdbginfo ∷ [])

abbrev pub compile_bits : CompileFlags → ℕ
compile_bits f =
    bits
    (f.edit_and_continue ∷ f.no_debug_info ∷ f.link_time_codegen ∷ f.no_data_align ∷ f.managed
    ∷ f.security_checks ∷ f.hot_patch ∷ f.cvtcil ∷ f.msil_module ∷ f.sdl ∷ f.pgo ∷ f.exp_module ∷ [])

abbrev pub export_bits : ExportSymbolFlags → ℕ
export_bits f = bits (f.constant ∷ f.data ∷ f.private ∷ f.no_name ∷ f.ordinal ∷ f.forwarder ∷ [])

abbrev pub local_bits : LocalVariableFlags → ℕ
local_bits f =
    bits
    (f.isparam ∷ f.addrtaken ∷ f.compgenx ∷ f.isaggregate ∷ f.isaliased ∷ f.isalias ∷ f.isretvalue
    ∷ f.isoptimizedout ∷ f.isenreg_glob ∷ f.isenreg_stat ∷ [])

abbrev pub separated_bits : SeparatedCodeFlags → ℕ
separated_bits f = bits (f.islexicalscope ∷ f.returnstoparent ∷ [])
