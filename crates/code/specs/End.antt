-- The records that end a scope, an inline site or a procedure, by the kind named at each: nothing stands behind the kind.
use Rattle.common.specs.Reader.{Reader, done}
use Rattle.records.specs.declared.SymbolData.{SymbolData}
use Rattle.records.specs.declared.SymbolData.TheVariants.{ScopeEnd, InlineSiteEnd, ProcedureEnd}

-- S_END
abbrev pub scope_end : Reader SymbolData
scope_end = done ScopeEnd

-- S_INLINESITE_END
abbrev pub inline_site_end : Reader SymbolData
inline_site_end = done InlineSiteEnd

-- S_PROC_ID_END
abbrev pub procedure_end : Reader SymbolData
procedure_end = done ProcedureEnd
