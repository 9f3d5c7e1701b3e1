-- Decode (document 01, "Decode").
use Rattle.std.specs.Prelude.{ℕ, List, cond, length, ltb, Err}
use Rattle.common.specs.Reader.{Read, Reader, ◌>>=◌, refuse, u16}
use Rattle.common.specs.declared.Refusal.TheVariants.{UnimplementedKind, TooLong}
use Rattle.constants.specs.Kind.{class_of}
use Rattle.constants.specs.declared.Class.{Class}
use Rattle.constants.specs.declared.Class.TheVariants.{Unknown, ScopeEnd, ObjName, RegisterVariable, Constant, UserDefinedType, MultiRegisterVariable, Data, Public, Procedure, ThreadStorage, CompileFlags, UsingNamespace, ProcedureReference, DataReference, AnnotationReference, Trampoline, Export, Local, BuildInfo, InlineSite, InlineSiteEnd, ProcedureEnd, Label, Block, RegisterRelative, Thunk, SeparatedCode}
use Rattle.records.specs.declared.SymbolData.{SymbolData}
use Rattle.compiland.specs.Object.{obj_name, using_namespace, build_info}
use Rattle.compiland.specs.Compile.{compile}
use Rattle.data.specs.Variable.{register_variable, constant, user_defined_type}
use Rattle.data.specs.Storage.{data_item, thread_storage}
use Rattle.data.specs.Local.{local, register_relative}
use Rattle.registers.specs.Registers.{multi_register_variable}
use Rattle.compiland.specs.Reference.{procedure_reference, data_reference, annotation_reference}
use Rattle.compiland.specs.Linkage.{public_symbol, export_symbol, trampoline}
use Rattle.code.specs.Procedure.{procedure, label}
use Rattle.code.specs.Block.{block, separated_code}
use Rattle.code.specs.Inline.{inline_site}
use Rattle.code.specs.Thunk.{thunk}
use Rattle.code.specs.End.{scope_end, inline_site_end, procedure_end}

-- the layout of each class; 3 with the kind where there is none
abbrev pub layout : Class → ℕ → Reader SymbolData
layout Unknown kind = refuse (UnimplementedKind kind)
layout ScopeEnd kind = scope_end
layout ObjName kind = obj_name kind
layout RegisterVariable kind = register_variable kind
layout Constant kind = constant kind
layout UserDefinedType kind = user_defined_type kind
layout MultiRegisterVariable kind = multi_register_variable kind
layout Data kind = data_item kind
layout Public kind = public_symbol kind
layout Procedure kind = procedure kind
layout ThreadStorage kind = thread_storage kind
layout CompileFlags kind = compile kind
layout UsingNamespace kind = using_namespace kind
layout ProcedureReference kind = procedure_reference kind
layout DataReference kind = data_reference kind
layout AnnotationReference kind = annotation_reference kind
layout Trampoline kind = trampoline
layout Export kind = export_symbol kind
layout Local kind = local kind
layout BuildInfo kind = build_info
layout InlineSite kind = inline_site kind
layout InlineSiteEnd kind = inline_site_end
layout ProcedureEnd kind = procedure_end
layout Label kind = label kind
layout Block kind = block kind
layout RegisterRelative kind = register_relative kind
layout Thunk kind = thunk kind
layout SeparatedCode kind = separated_code

abbrev pub by_kind : ℕ → Reader SymbolData
by_kind kind = layout (class_of kind) kind

-- 5 above 65,535 bytes; 1 below 2 bytes; 3; then 1 or 4 at the first field, in layout order, that can't be read
unfoldable pub decode : List ℕ → Read SymbolData
decode s = cond (ltb 65535 (length s)) (Err TooLong) ((u16 >>= by_kind) s 0)
