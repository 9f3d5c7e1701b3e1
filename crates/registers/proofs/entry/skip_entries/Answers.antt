-- `registers::entry::skip_entries` meets its contract.
use Rattle.std.proofs.Common.{rules}
use Rattle.registers.proofs.Skips.{none_left, one_more}
use Rattle.registers.proofs.entry.skip_entries.Goals as goal

pub returns-in_err-parse_entry : goal.returns-in_err-parse_entry
returns-in_err-parse_entry c = let more = one_more c.args.kind c.args.n c.loop.counter c.loop-test.true in search rules

pub loop-preserved : goal.loop-preserved
loop-preserved c = let more = one_more c.args.kind c.args.n c.loop.counter c.loop-test.true in search rules

pub returns : goal.returns
returns c = let none = none_left c.args.kind c.args.n c.loop.counter (search rules) in search rules
