-- What the loop has passed over is the start of what it answers; the measure is what is left of the stream.
use Rattle.std.proofs.Common.{suc, length, ◌-◌}
use Rattle.iter.specs.Step.{scan_from}
use Rattle.iter.proofs.Laws.{Comes}
use Rattle.iter.proofs.scan_within.Given as goal

abbrev pub invariant-loop-e : goal.invariant-loop-e
invariant-loop-e l = Comes l.s l.p l.fillers l.filler_bytes (scan_from (suc (length l.s)) l.s l.from)

abbrev pub decreases-loop-e : goal.decreases-loop-e
decreases-loop-e l = length l.s - l.p
