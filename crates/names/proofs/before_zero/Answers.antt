-- `names::before_zero` meets its contract.
use Rattle.std.proofs.Common.{◌∙◌}
use Rattle.names.proofs.Run.{before_zero}
use Rattle.names.proofs.before_zero.Goals as goal

pub returns : goal.returns
returns c = c.unwrap_or.ensures ∙ before_zero _ _ c.memchr.ensures
