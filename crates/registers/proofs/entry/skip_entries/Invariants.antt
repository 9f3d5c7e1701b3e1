-- The entries that are left, from here on, are those that were asked for from where the loop began.
use Rattle.std.proofs.Common.{◌≡◌, ◌-◌}
use Rattle.registers.specs.Entries.{skip}
use Rattle.registers.proofs.entry.skip_entries.Given as goal

abbrev pub invariant-loop : goal.invariant-loop
invariant-loop l =
    (l.ahead.bytes ≡ l.initial.ahead.bytes)
    × (skip l.kind (l.n - l.counter) l.ahead.bytes.now l.ahead.pos ≡ skip l.kind l.n l.initial.ahead.bytes.now l.initial.ahead.pos)
