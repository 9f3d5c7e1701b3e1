-- `mitrelilac::condition3::four_calls` meets its contract.
use Rattle.mitrelilac.proofs.Exported.{exported_condition3}
use Rattle.mitrelilac.proofs.condition3.four_calls.Goals as goal

pub returns-clause-condition3 : goal.returns-clause-condition3
returns-clause-condition3 c =
    exported_condition3 _ _ _ c.mitrelilac_check-check.ensures.replied c.mitrelilac_walk-walk.ensures c.mitrelilac_jump-jump.ensures
    c.mitrelilac_climb-climb.ensures
