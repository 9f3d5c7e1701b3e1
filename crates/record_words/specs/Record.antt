-- A decoded record as words: the number of its class, the bytes consumed, and its fields in the order of pdb's structs. A name is where
-- it starts and its length; a place is its offset and its section.
use Rattle.std.specs.Prelude.{ℕ, List, [], ◌∷◌, unwrap_or}
use Rattle.constants.specs.Kind.{class_number}
use Rattle.constants.specs.declared.Class.{Class}
use Rattle.constants.specs.declared.Class.TheVariants as C
use Rattle.records.specs.declared.ObjNameSymbol.{ObjNameSymbol}
use Rattle.records.specs.declared.RegisterVariableSymbol.{RegisterVariableSymbol}
use Rattle.records.specs.declared.ConstantSymbol.{ConstantSymbol}
use Rattle.records.specs.declared.UserDefinedTypeSymbol.{UserDefinedTypeSymbol}
use Rattle.records.specs.declared.MultiRegisterVariableSymbol.{MultiRegisterVariableSymbol}
use Rattle.records.specs.declared.DataSymbol.{DataSymbol}
use Rattle.records.specs.declared.PublicSymbol.{PublicSymbol}
use Rattle.records.specs.declared.ProcedureSymbol.{ProcedureSymbol}
use Rattle.records.specs.declared.ThreadStorageSymbol.{ThreadStorageSymbol}
use Rattle.records.specs.declared.CompileFlagsSymbol.{CompileFlagsSymbol}
use Rattle.records.specs.declared.UsingNamespaceSymbol.{UsingNamespaceSymbol}
use Rattle.records.specs.declared.ProcedureReferenceSymbol.{ProcedureReferenceSymbol}
use Rattle.records.specs.declared.DataReferenceSymbol.{DataReferenceSymbol}
use Rattle.records.specs.declared.AnnotationReferenceSymbol.{AnnotationReferenceSymbol}
use Rattle.records.specs.declared.TrampolineSymbol.{TrampolineSymbol}
use Rattle.records.specs.declared.ExportSymbol.{ExportSymbol}
use Rattle.records.specs.declared.LocalSymbol.{LocalSymbol}
use Rattle.records.specs.declared.BuildInfoSymbol.{BuildInfoSymbol}
use Rattle.records.specs.declared.InlineSiteSymbol.{InlineSiteSymbol}
use Rattle.records.specs.declared.LabelSymbol.{LabelSymbol}
use Rattle.records.specs.declared.BlockSymbol.{BlockSymbol}
use Rattle.records.specs.declared.RegisterRelativeSymbol.{RegisterRelativeSymbol}
use Rattle.records.specs.declared.ThunkSymbol.{ThunkSymbol}
use Rattle.records.specs.declared.SeparatedCodeSymbol.{SeparatedCodeSymbol}
use Rattle.records.specs.declared.SymbolData.{SymbolData}
use Rattle.records.specs.declared.SymbolData.TheVariants as D
use Rattle.words.specs.Word.{truth, signed_word}
use Rattle.record_words.specs.Fields.{has, no_part, variant_number, variant_value, trampoline_number, thunk_number, thunk_value, thunk_target}
use Rattle.record_words.specs.Flags.{public_bits, procedure_bits, compile_bits, export_bits, local_bits, separated_bits}

abbrev pub obj_name_words : ObjNameSymbol → List ℕ
obj_name_words x = x.signature ∷ x.name.start ∷ x.name.len ∷ []

abbrev pub register_variable_words : RegisterVariableSymbol → List ℕ
register_variable_words x = x.type_index ∷ x.register ∷ x.name.start ∷ x.name.len ∷ []

abbrev pub constant_words : ConstantSymbol → List ℕ
constant_words x =
    truth x.managed ∷ x.type_index
    ∷ variant_number x.value ∷ variant_value x.value
    ∷ x.name.start ∷ x.name.len ∷ []

abbrev pub user_defined_type_words : UserDefinedTypeSymbol → List ℕ
user_defined_type_words x = x.type_index ∷ x.name.start ∷ x.name.len ∷ []

-- the number of entries, and where the first stands
abbrev pub multi_register_variable_words : MultiRegisterVariableSymbol → List ℕ
multi_register_variable_words x = x.type_index ∷ x.count ∷ x.first ∷ []

abbrev pub data_words : DataSymbol → List ℕ
data_words x =
    truth x.global ∷ truth x.managed ∷ x.type_index
    ∷ x.offset.offset ∷ x.offset.section
    ∷ x.name.start ∷ x.name.len ∷ []

abbrev pub public_words : PublicSymbol → List ℕ
public_words x = public_bits x.flags ∷ x.offset.offset ∷ x.offset.section ∷ x.name.start ∷ x.name.len ∷ []

-- a parent or a next is 0 where there is none
abbrev pub procedure_words : ProcedureSymbol → List ℕ
procedure_words x =
    truth x.global ∷ truth x.dpc
    ∷ unwrap_or x.parent 0 ∷ x.end ∷ unwrap_or x.next 0
    ∷ x.len ∷ x.dbg_start_offset ∷ x.dbg_end_offset ∷ x.type_index
    ∷ x.offset.offset ∷ x.offset.section
    ∷ procedure_bits x.flags
    ∷ x.name.start ∷ x.name.len ∷ []

abbrev pub thread_storage_words : ThreadStorageSymbol → List ℕ
thread_storage_words x =
    truth x.global ∷ x.type_index
    ∷ x.offset.offset ∷ x.offset.section
    ∷ x.name.start ∷ x.name.len ∷ []

-- each version: major, minor, build, whether there is a QFE number, and the number
abbrev pub compile_flags_words : CompileFlagsSymbol → List ℕ
compile_flags_words x =
    x.language ∷ compile_bits x.flags ∷ x.cpu_type
    ∷ x.frontend_version.major ∷ x.frontend_version.minor ∷ x.frontend_version.build
    ∷ has x.frontend_version.qfe ∷ unwrap_or x.frontend_version.qfe 0
    ∷ x.backend_version.major ∷ x.backend_version.minor ∷ x.backend_version.build
    ∷ has x.backend_version.qfe ∷ unwrap_or x.backend_version.qfe 0
    ∷ x.version_string.start ∷ x.version_string.len ∷ []

abbrev pub using_namespace_words : UsingNamespaceSymbol → List ℕ
using_namespace_words x = x.name.start ∷ x.name.len ∷ []

-- whether there is a module, the module, whether there is a name, and the name
abbrev pub procedure_reference_words : ProcedureReferenceSymbol → List ℕ
procedure_reference_words x =
    truth x.global ∷ x.sum_name ∷ x.symbol_index
    ∷ has x.module ∷ unwrap_or x.module 0
    ∷ has x.name ∷ (unwrap_or x.name no_part).start ∷ (unwrap_or x.name no_part).len ∷ []

abbrev pub data_reference_words : DataReferenceSymbol → List ℕ
data_reference_words x =
    x.sum_name ∷ x.symbol_index
    ∷ has x.module ∷ unwrap_or x.module 0
    ∷ has x.name ∷ (unwrap_or x.name no_part).start ∷ (unwrap_or x.name no_part).len ∷ []

abbrev pub annotation_reference_words : AnnotationReferenceSymbol → List ℕ
annotation_reference_words x =
    x.sum_name ∷ x.symbol_index
    ∷ has x.module ∷ unwrap_or x.module 0
    ∷ x.name.start ∷ x.name.len ∷ []

abbrev pub trampoline_words : TrampolineSymbol → List ℕ
trampoline_words x =
    trampoline_number x.tramp_type ∷ x.size
    ∷ x.thunk.offset ∷ x.thunk.section
    ∷ x.target.offset ∷ x.target.section ∷ []

abbrev pub export_words : ExportSymbol → List ℕ
export_words x = x.ordinal ∷ export_bits x.flags ∷ x.name.start ∷ x.name.len ∷ []

abbrev pub local_words : LocalSymbol → List ℕ
local_words x = x.type_index ∷ local_bits x.flags ∷ x.name.start ∷ x.name.len ∷ []

abbrev pub build_info_words : BuildInfoSymbol → List ℕ
build_info_words x = x.id ∷ []

-- whether invocations are counted, their count, and the annotations
abbrev pub inline_site_words : InlineSiteSymbol → List ℕ
inline_site_words x =
    unwrap_or x.parent 0 ∷ x.end ∷ x.inlinee
    ∷ has x.invocations ∷ unwrap_or x.invocations 0
    ∷ x.annotations.start ∷ x.annotations.len ∷ []

abbrev pub label_words : LabelSymbol → List ℕ
label_words x = x.offset.offset ∷ x.offset.section ∷ procedure_bits x.flags ∷ x.name.start ∷ x.name.len ∷ []

abbrev pub block_words : BlockSymbol → List ℕ
block_words x = x.parent ∷ x.end ∷ x.len ∷ x.offset.offset ∷ x.offset.section ∷ x.name.start ∷ x.name.len ∷ []

abbrev pub register_relative_words : RegisterRelativeSymbol → List ℕ
register_relative_words x = signed_word x.offset ∷ x.type_index ∷ x.register ∷ x.name.start ∷ x.name.len ∷ []

abbrev pub thunk_words : ThunkSymbol → List ℕ
thunk_words x =
    unwrap_or x.parent 0 ∷ x.end ∷ unwrap_or x.next 0
    ∷ x.offset.offset ∷ x.offset.section ∷ x.len
    ∷ thunk_number x.kind ∷ thunk_value x.kind ∷ (thunk_target x.kind).start ∷ (thunk_target x.kind).len
    ∷ x.name.start ∷ x.name.len ∷ []

abbrev pub separated_code_words : SeparatedCodeSymbol → List ℕ
separated_code_words x =
    x.parent ∷ x.end ∷ x.len ∷ separated_bits x.flags
    ∷ x.offset.offset ∷ x.offset.section
    ∷ x.parent_offset.offset ∷ x.parent_offset.section ∷ []

-- the class of a typed record
abbrev pub class_in : SymbolData → Class
class_in D.ScopeEnd = C.ScopeEnd
class_in (D.ObjName x) = C.ObjName
class_in (D.RegisterVariable x) = C.RegisterVariable
class_in (D.Constant x) = C.Constant
class_in (D.UserDefinedType x) = C.UserDefinedType
class_in (D.MultiRegisterVariable x) = C.MultiRegisterVariable
class_in (D.Data x) = C.Data
class_in (D.Public x) = C.Public
class_in (D.Procedure x) = C.Procedure
class_in (D.ThreadStorage x) = C.ThreadStorage
class_in (D.CompileFlags x) = C.CompileFlags
class_in (D.UsingNamespace x) = C.UsingNamespace
class_in (D.ProcedureReference x) = C.ProcedureReference
class_in (D.DataReference x) = C.DataReference
class_in (D.AnnotationReference x) = C.AnnotationReference
class_in (D.Trampoline x) = C.Trampoline
class_in (D.Export x) = C.Export
class_in (D.Local x) = C.Local
class_in (D.BuildInfo x) = C.BuildInfo
class_in (D.InlineSite x) = C.InlineSite
class_in D.InlineSiteEnd = C.InlineSiteEnd
class_in D.ProcedureEnd = C.ProcedureEnd
class_in (D.Label x) = C.Label
class_in (D.Block x) = C.Block
class_in (D.RegisterRelative x) = C.RegisterRelative
class_in (D.Thunk x) = C.Thunk
class_in (D.SeparatedCode x) = C.SeparatedCode

abbrev pub field_words : SymbolData → List ℕ
field_words D.ScopeEnd = []
field_words (D.ObjName x) = obj_name_words x
field_words (D.RegisterVariable x) = register_variable_words x
field_words (D.Constant x) = constant_words x
field_words (D.UserDefinedType x) = user_defined_type_words x
field_words (D.MultiRegisterVariable x) = multi_register_variable_words x
field_words (D.Data x) = data_words x
field_words (D.Public x) = public_words x
field_words (D.Procedure x) = procedure_words x
field_words (D.ThreadStorage x) = thread_storage_words x
field_words (D.CompileFlags x) = compile_flags_words x
field_words (D.UsingNamespace x) = using_namespace_words x
field_words (D.ProcedureReference x) = procedure_reference_words x
field_words (D.DataReference x) = data_reference_words x
field_words (D.AnnotationReference x) = annotation_reference_words x
field_words (D.Trampoline x) = trampoline_words x
field_words (D.Export x) = export_words x
field_words (D.Local x) = local_words x
field_words (D.BuildInfo x) = build_info_words x
field_words (D.InlineSite x) = inline_site_words x
field_words D.InlineSiteEnd = []
field_words D.ProcedureEnd = []
field_words (D.Label x) = label_words x
field_words (D.Block x) = block_words x
field_words (D.RegisterRelative x) = register_relative_words x
field_words (D.Thunk x) = thunk_words x
field_words (D.SeparatedCode x) = separated_code_words x

unfoldable pub record_words : SymbolData → ℕ → List ℕ
record_words d consumed = class_number (class_in d) ∷ consumed ∷ field_words d
