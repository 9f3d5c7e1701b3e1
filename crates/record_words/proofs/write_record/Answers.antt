-- `record_words::write_record` meets its contract: the records that have no fields.
use Rattle.std.proofs.Common.{rules}
use Rattle.record_words.specs.Record.{record_words}
use Rattle.record_words.proofs.write_record.Goals as goal

pub returns-in-ScopeEnd : goal.returns-in-ScopeEnd
unfolding record_words
returns-in-ScopeEnd c = search rules

pub returns-in-InlineSiteEnd : goal.returns-in-InlineSiteEnd
unfolding record_words
returns-in-InlineSiteEnd c = search rules

pub returns-in-ProcedureEnd : goal.returns-in-ProcedureEnd
unfolding record_words
returns-in-ProcedureEnd c = search rules
