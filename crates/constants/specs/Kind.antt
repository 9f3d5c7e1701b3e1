-- The record kinds that are read, or that open or close a scope, as cvinfo.h (SYM_ENUM_e) numbers them: the class that each is decoded
-- as (the arms of `SymbolData::try_from_ctx`) and its part in a scope (`starts_scope`, `ends_scope`).
use Rattle.std.specs.Prelude.{ℕ, Bool, true, false, cond, ◌||◌, List, [], ◌∷◌, eqb}
use Rattle.constants.specs.declared.Class.{Class}
use Rattle.constants.specs.declared.Class.TheVariants.{Unknown, ScopeEnd, ObjName, RegisterVariable, Constant, UserDefinedType, MultiRegisterVariable, Data, Public, Procedure, ThreadStorage, CompileFlags, UsingNamespace, ProcedureReference, DataReference, AnnotationReference, Trampoline, Export, Local, BuildInfo, InlineSite, InlineSiteEnd, ProcedureEnd, Label, Block, RegisterRelative, Thunk, SeparatedCode}
use Rattle.constants.specs.declared.Role.{Role}
use Rattle.constants.specs.declared.Role.TheVariants.{Neither, Opens, Closes}

pub data Entry : Type 0 where
  kind : ℕ → Class → Role → Entry

unfoldable pub kinds : List Entry
kinds =
    kind 0x0006 ScopeEnd Closes ∷  -- S_END
    kind 0x0009 ObjName Neither ∷  -- S_OBJNAME_ST
    kind 0x0104 Unknown Opens ∷  -- S_LPROC16
    kind 0x0105 Unknown Opens ∷  -- S_GPROC16
    kind 0x0106 Unknown Opens ∷  -- S_THUNK16
    kind 0x0107 Unknown Opens ∷  -- S_BLOCK16
    kind 0x0108 Unknown Opens ∷  -- S_WITH16
    kind 0x0206 Thunk Opens ∷  -- S_THUNK32_ST
    kind 0x0207 Block Opens ∷  -- S_BLOCK32_ST
    kind 0x0208 Unknown Opens ∷  -- S_WITH32_ST
    kind 0x0209 Label Neither ∷  -- S_LABEL32_ST
    kind 0x0400 ProcedureReference Neither ∷  -- S_PROCREF_ST
    kind 0x0401 DataReference Neither ∷  -- S_DATAREF_ST
    kind 0x0403 ProcedureReference Neither ∷  -- S_LPROCREF_ST
    kind 0x1001 RegisterVariable Neither ∷  -- S_REGISTER_ST
    kind 0x1002 Constant Neither ∷  -- S_CONSTANT_ST
    kind 0x1003 UserDefinedType Neither ∷  -- S_UDT_ST
    kind 0x1004 UserDefinedType Neither ∷  -- S_COBOLUDT_ST
    kind 0x1005 MultiRegisterVariable Neither ∷  -- S_MANYREG_ST
    kind 0x1007 Data Neither ∷  -- S_LDATA32_ST
    kind 0x1008 Data Neither ∷  -- S_GDATA32_ST
    kind 0x1009 Public Neither ∷  -- S_PUB32_ST
    kind 0x100a Procedure Opens ∷  -- S_LPROC32_ST
    kind 0x100b Procedure Opens ∷  -- S_GPROC32_ST
    kind 0x100e ThreadStorage Neither ∷  -- S_LTHREAD32_ST
    kind 0x100f ThreadStorage Neither ∷  -- S_GTHREAD32_ST
    kind 0x1010 Unknown Opens ∷  -- S_LPROCMIPS_ST
    kind 0x1011 Unknown Opens ∷  -- S_GPROCMIPS_ST
    kind 0x1013 CompileFlags Neither ∷  -- S_COMPILE2_ST
    kind 0x1014 MultiRegisterVariable Neither ∷  -- S_MANYREG2_ST
    kind 0x1015 Unknown Opens ∷  -- S_LPROCIA64_ST
    kind 0x1016 Unknown Opens ∷  -- S_GPROCIA64_ST
    kind 0x101a Unknown Opens ∷  -- S_GMANPROC_ST
    kind 0x101b Unknown Opens ∷  -- S_LMANPROC_ST
    kind 0x1020 Data Neither ∷  -- S_LMANDATA_ST
    kind 0x1021 Data Neither ∷  -- S_GMANDATA_ST
    kind 0x1029 UsingNamespace Neither ∷  -- S_UNAMESPACE_ST
    kind 0x1101 ObjName Neither ∷  -- S_OBJNAME
    kind 0x1102 Thunk Opens ∷  -- S_THUNK32
    kind 0x1103 Block Opens ∷  -- S_BLOCK32
    kind 0x1104 Unknown Opens ∷  -- S_WITH32
    kind 0x1105 Label Neither ∷  -- S_LABEL32
    kind 0x1106 RegisterVariable Neither ∷  -- S_REGISTER
    kind 0x1107 Constant Neither ∷  -- S_CONSTANT
    kind 0x1108 UserDefinedType Neither ∷  -- S_UDT
    kind 0x1109 UserDefinedType Neither ∷  -- S_COBOLUDT
    kind 0x110a MultiRegisterVariable Neither ∷  -- S_MANYREG
    kind 0x110c Data Neither ∷  -- S_LDATA32
    kind 0x110d Data Neither ∷  -- S_GDATA32
    kind 0x110e Public Neither ∷  -- S_PUB32
    kind 0x110f Procedure Opens ∷  -- S_LPROC32
    kind 0x1110 Procedure Opens ∷  -- S_GPROC32
    kind 0x1111 RegisterRelative Neither ∷  -- S_REGREL32
    kind 0x1112 ThreadStorage Neither ∷  -- S_LTHREAD32
    kind 0x1113 ThreadStorage Neither ∷  -- S_GTHREAD32
    kind 0x1114 Unknown Opens ∷  -- S_LPROCMIPS
    kind 0x1115 Unknown Opens ∷  -- S_GPROCMIPS
    kind 0x1116 CompileFlags Neither ∷  -- S_COMPILE2
    kind 0x1117 MultiRegisterVariable Neither ∷  -- S_MANYREG2
    kind 0x1118 Unknown Opens ∷  -- S_LPROCIA64
    kind 0x1119 Unknown Opens ∷  -- S_GPROCIA64
    kind 0x111c Data Neither ∷  -- S_LMANDATA
    kind 0x111d Data Neither ∷  -- S_GMANDATA
    kind 0x1124 UsingNamespace Neither ∷  -- S_UNAMESPACE
    kind 0x1125 ProcedureReference Neither ∷  -- S_PROCREF
    kind 0x1126 DataReference Neither ∷  -- S_DATAREF
    kind 0x1127 ProcedureReference Neither ∷  -- S_LPROCREF
    kind 0x1128 AnnotationReference Neither ∷  -- S_ANNOTATIONREF
    kind 0x112a Unknown Opens ∷  -- S_GMANPROC
    kind 0x112b Unknown Opens ∷  -- S_LMANPROC
    kind 0x112c Trampoline Neither ∷  -- S_TRAMPOLINE
    kind 0x112d Constant Neither ∷  -- S_MANCONSTANT
    kind 0x1132 SeparatedCode Opens ∷  -- S_SEPCODE
    kind 0x1138 Export Neither ∷  -- S_EXPORT
    kind 0x113c CompileFlags Neither ∷  -- S_COMPILE3
    kind 0x113e Local Neither ∷  -- S_LOCAL
    kind 0x1146 Procedure Neither ∷  -- S_LPROC32_ID
    kind 0x1147 Procedure Opens ∷  -- S_GPROC32_ID
    kind 0x1149 Unknown Opens ∷  -- S_GPROCMIPS_ID
    kind 0x114b Unknown Opens ∷  -- S_GPROCIA64_ID
    kind 0x114c BuildInfo Neither ∷  -- S_BUILDINFO
    kind 0x114d InlineSite Opens ∷  -- S_INLINESITE
    kind 0x114e InlineSiteEnd Closes ∷  -- S_INLINESITE_END
    kind 0x114f ProcedureEnd Closes ∷  -- S_PROC_ID_END
    kind 0x1155 Procedure Opens ∷  -- S_LPROC32_DPC
    kind 0x1156 Procedure Opens ∷  -- S_LPROC32_DPC_ID
    kind 0x115d InlineSite Opens ∷  -- S_INLINESITE2
    []

abbrev pub kind_number : Entry → ℕ
kind_number (kind n c r) = n

abbrev pub class : Entry → Class
class (kind n c r) = c

abbrev pub role : Entry → Role
role (kind n c r) = r

-- the entry of a kind; a kind that is not listed is not read and has no part in a scope
unfoldable pub entry_of : ℕ → List Entry → Entry
entry_of k [] = kind k Unknown Neither
entry_of k (e ∷ es) = cond (eqb k (kind_number e)) e (entry_of k es)

-- what decode reads; `Unknown` is refused by 3 (`UnimplementedSymbolKind`)
unfoldable pub class_of : ℕ → Class
class_of k = class (entry_of k kinds)

unfoldable pub role_of : ℕ → Role
role_of k = role (entry_of k kinds)

abbrev pub opens : Role → Bool
opens Neither = false
opens Opens = true
opens Closes = false

abbrev pub closes : Role → Bool
closes Neither = false
closes Opens = false
closes Closes = true

-- opener, held against pdb's `starts_scope`
unfoldable pub starts_scope : ℕ → Bool
starts_scope k = opens (role_of k)

-- closer, held against pdb's `ends_scope`
unfoldable pub ends_scope : ℕ → Bool
ends_scope k = closes (role_of k)

-- What the nesting check and the finders take a record for. "Check and the three finders now take S_LPROC32_ID as an opener" (document 02,
-- M-101): that is 0x1146.
unfoldable pub nesting_role : ℕ → Role
nesting_role k = cond (eqb k 0x1146) Opens (role_of k)

-- Kinds S_ALIGN (0x0402) and S_SKIP (0x0007) are passed over by a step.
abbrev pub is_filler : ℕ → Bool
is_filler k = eqb k 0x0402 || eqb k 0x0007

-- the number of a class, in the order of `SymbolData`
abbrev pub class_number : Class → ℕ
class_number Unknown = 0
class_number ScopeEnd = 1
class_number ObjName = 2
class_number RegisterVariable = 3
class_number Constant = 4
class_number UserDefinedType = 5
class_number MultiRegisterVariable = 6
class_number Data = 7
class_number Public = 8
class_number Procedure = 9
class_number ThreadStorage = 10
class_number CompileFlags = 11
class_number UsingNamespace = 12
class_number ProcedureReference = 13
class_number DataReference = 14
class_number AnnotationReference = 15
class_number Trampoline = 16
class_number Export = 17
class_number Local = 18
class_number BuildInfo = 19
class_number InlineSite = 20
class_number InlineSiteEnd = 21
class_number ProcedureEnd = 22
class_number Label = 23
class_number Block = 24
class_number RegisterRelative = 25
class_number Thunk = 26
class_number SeparatedCode = 27
