-- `mitrelilac::mitrelilac_preview` meets its contract.
use Rattle.mitrelilac.proofs.Exported.{call_foretells}
use Rattle.mitrelilac.proofs.mitrelilac_preview.Goals as goal

pub returns-clause-foretells : goal.returns-clause-foretells
returns-clause-foretells c = call_foretells _ _ _ _ c.reply_preview.ensures c.preview.ensures.foretells
