-- The name that a decoded record has (document 01, "Name").
use Rattle.std.specs.Prelude.{Option, None, Some}
use Rattle.names.specs.declared.Part.{Part}
use Rattle.records.specs.declared.SymbolData.{SymbolData}
use Rattle.records.specs.declared.SymbolData.TheVariants as D

-- the field that pdb's SymbolData::name gives; registers, register lists, compile flags and the records without one have none
abbrev pub name_in : SymbolData → Option Part
name_in (D.ObjName x) = Some x.name
name_in (D.Constant x) = Some x.name
name_in (D.UserDefinedType x) = Some x.name
name_in (D.Data x) = Some x.name
name_in (D.Public x) = Some x.name
name_in (D.Procedure x) = Some x.name
name_in (D.ThreadStorage x) = Some x.name
name_in (D.UsingNamespace x) = Some x.name
name_in (D.ProcedureReference x) = x.name
name_in (D.DataReference x) = x.name
name_in (D.AnnotationReference x) = Some x.name
name_in (D.Export x) = Some x.name
name_in (D.Local x) = Some x.name
name_in (D.Label x) = Some x.name
name_in (D.Block x) = Some x.name
name_in (D.RegisterRelative x) = Some x.name
name_in (D.Thunk x) = Some x.name
name_in _ = None
