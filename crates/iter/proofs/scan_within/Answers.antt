-- `iter::scan_within` meets its contract.
use Rattle.iter.proofs.Laws.{passes}
use Rattle.iter.proofs.scan_within.Goals as goal

pub loop-e-preserved : goal.loop-e-preserved
loop-e-preserved c = passes _ _ _ _ _ c.in-Ok-Some.field-0-0 (cc) (cc) c.loop-e.invariant
