-- `mitrelilac::mitrelilac_squeeze` meets its contract.
use Rattle.mitrelilac.proofs.Exported.{call_squeezes}
use Rattle.mitrelilac.proofs.mitrelilac_squeeze.Goals as goal

pub returns-clause-squeezes : goal.returns-clause-squeezes
returns-clause-squeezes c = call_squeezes _ _ _ _ c.reply_squeeze.ensures c.squeeze.ensures.squeezes
