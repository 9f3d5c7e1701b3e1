-- `squeezing::squeeze` meets its contract.
use Rattle.std.proofs.Common.{◌∙◌, length, rules, sym, ap}
use Rattle.squeezing.specs.Squeeze.{squeezed, buffer_by}
use Rattle.squeezing.proofs.Planned.{squeeze_refused, within, nests, written_fits, with_room, with_less, put_squeezed, call_squeezes}
use Rattle.squeezing.proofs.squeeze.Goals as goal

pub returns-in_err-first-clause-value : goal.returns-in_err-first-clause-value
returns-in_err-first-clause-value c = search (rules, squeeze_refused _ _ c.in_err-first.ensures (length c.args.buffer.now))

pub returns-in_err-first-clause-buffer : goal.returns-in_err-first-clause-buffer
returns-in_err-first-clause-buffer c = ap (λ r. buffer_by r (squeezed c.args.s.now c.args.start) c.args.buffer.now) (squeeze_refused _ _ c.in_err-first.ensures _)

pub returns-then-buffer-length-clause-value : goal.returns-then-buffer-length-clause-value
returns-then-buffer-length-clause-value c = sym (with_less _ _ c.in_ok-first.ensures _ c.if-buffer-length.true)

pub returns-then-buffer-length-clause-buffer : goal.returns-then-buffer-length-clause-buffer
returns-then-buffer-length-clause-buffer c = ap (λ r. buffer_by r (squeezed c.args.s.now c.args.start) c.args.buffer.now) (returns-then-buffer-length-clause-value c)

pub write-requires-clause-within : goal.write-requires-clause-within
write-requires-clause-within c = within _ _ c.in_ok-first.ensures

pub write-requires-clause-nests : goal.write-requires-clause-nests
write-requires-clause-nests c = nests _ _ c.in_ok-first.ensures

pub write-requires-clause-room : goal.write-requires-clause-room
write-requires-clause-room c = written_fits _ _ c.in_ok-first.ensures _ c.if-buffer-length.false

pub returns-clause-value : goal.returns-clause-value
returns-clause-value c = sym (with_room _ _ c.in_ok-first.ensures _ c.if-buffer-length.false)

pub returns-clause-buffer : goal.returns-clause-buffer
returns-clause-buffer c =
    put_squeezed _ _ c.in_ok-first.ensures _ _ c.write.ensures
    ∙ ap (λ r. buffer_by r (squeezed c.args.s.now c.args.start) c.args.buffer.now) (returns-clause-value c)

pub returns-clause-squeezes : goal.returns-clause-squeezes
returns-clause-squeezes c = call_squeezes _ _ c.in_ok-first.ensures _ _ c.write.ensures
