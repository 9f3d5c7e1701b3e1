-- `squeezing::write` meets its contract.
use Rattle.std.proofs.Common.{◌≡◌, ◌+◌, reverse, rules, sym, subst, ap, ◌∙◌, arith, Ok}
use Rattle.common.specs.Bytes.{put_u32}
use Rattle.iter.proofs.Reading.{step_is, step_fits}
use Rattle.iter.proofs.Steps.{record_of, lent_bytes}
use Rattle.squeezing.specs.Squeeze.{moved_link, record_links, next_by}
use Rattle.squeezing.specs.Landing.{landing_at}
use Rattle.squeezing.specs.Plan.{Readable}
use Rattle.links.specs.Links.{put_parent_and_next}
use Rattle.squeezing.specs.Write.{innermost}
use Rattle.squeezing.proofs.Landings.{behind_fits}
use Rattle.squeezing.proofs.Writes.{front_fits, writing_first, at_end, at_refused, readable_here, role_here, frame_fits, copied_length, place_fits, here_fits, neither, inner_within, end_fits, closes_turn, links_fit, next_fits, parent_fits, push_room, opens_turn}
use Rattle.squeezing.proofs.write.Goals as goal

pub put-requires : goal.put-requires
put-requires c = front_fits _ _ c.requires.within c.requires.room

pub loop-r-init : goal.loop-r-init
loop-r-init c = rw (c.first-here.ensures, c.put.ensures, c.new-openers.ensures) (writing_first _ _ _ c.requires.within c.requires.nests c.requires.room)

pub returns-in-Err : goal.returns-in-Err
returns-in-Err c = at_refused c.loop-r.invariant (step_is _ _ c.step.ensures c.in-Err.is)

pub returns-in-Ok-End : goal.returns-in-Ok-End
returns-in-Ok-End c = at_end c.loop-r.invariant (step_is _ _ c.step.ensures (c.in-Ok-End.is ∙ ap Ok c.in-Ok-End.field-0-is))

pub next_of-next-requires-clause-readable : goal.next_of-next-requires-clause-readable
next_of-next-requires-clause-readable c =
    let it = record_of _ _ c.in-Ok-Record.ensures c.in-Ok-Record.field-0-is in
    subst Readable (sym (lent_bytes _ _ c.in-Ok-Record.ensures c.in-Ok-Record.field-0-is)) (readable_here c.loop-r.invariant it)

pub behind-here-requires : goal.behind-here-requires
behind-here-requires c = behind_fits _ _ c.loop-r.invariant.here_lands.low (record_of _ _ c.in-Ok-Record.ensures c.in-Ok-Record.field-0-is)

pub put-requires-in-Ok-Record : goal.put-requires-in-Ok-Record
put-requires-in-Ok-Record c = frame_fits c.loop-r.invariant (record_of _ _ c.in-Ok-Record.ensures c.in-Ok-Record.field-0-is)

pub loop-r-preserved-in-Neither : goal.loop-r-preserved-in-Neither
loop-r-preserved-in-Neither c =
    let it = record_of _ _ c.in-Ok-Record.ensures c.in-Ok-Record.field-0-is in
    let g = c.loop-r.invariant in
    rw c.behind-here.ensures (neither g it (role_here g it c.in-Neither.ensures) c.put-in-Ok-Record.ensures c.moved_link-next.ensures.known)

pub put_parent_and_next-requires-clause-within : goal.put_parent_and_next-requires-clause-within
put_parent_and_next-requires-clause-within c =
    let it = record_of _ _ c.in-Ok-Record.ensures c.in-Ok-Record.field-0-is in
    let g = c.loop-r.invariant in
    rw (c.put-in-Ok-Record.ensures, copied_length g it) (links_fit g it (role_here g it c.in-Opens.ensures))

pub put_parent_and_next-requires-clause-next_within : goal.put_parent_and_next-requires-clause-next_within
put_parent_and_next-requires-clause-next_within c n =
    let it = record_of _ _ c.in-Ok-Record.ensures c.in-Ok-Record.field-0-is in
    let g = c.loop-r.invariant in
    rw (c.put-in-Ok-Record.ensures, copied_length g it) (next_fits g it (role_here g it c.in-Opens.ensures) n)

pub put_parent_and_next-requires-clause-fits : goal.put_parent_and_next-requires-clause-fits
put_parent_and_next-requires-clause-fits c =
    let it = record_of _ _ c.in-Ok-Record.ensures c.in-Ok-Record.field-0-is in
    let g = c.loop-r.invariant in
    let inner = c.innermost.ensures ∙ ap (λ l. innermost (reverse l)) c.deref.ensures.0 in
    (rw inner (parent_fits g it (role_here g it c.in-Opens.ensures)), rw c.moved_link-next.ensures.moved (place_fits g it _))

pub push-requires : goal.push-requires
push-requires c =
    let it = record_of _ _ c.in-Ok-Record.ensures c.in-Ok-Record.field-0-is in
    let g = c.loop-r.invariant in
    (omega arith, push_room g it (role_here g it c.in-Opens.ensures))

pub loop-r-preserved-in-Opens : goal.loop-r-preserved-in-Opens
loop-r-preserved-in-Opens c =
    let it = record_of _ _ c.in-Ok-Record.ensures c.in-Ok-Record.field-0-is in
    let g = c.loop-r.invariant in
    let next : c.moved_link-next.result ≡ moved_link (landing_at c.args.s.now c.args.first) (next_by (record_links _)) =
    c.moved_link-next.ensures.moved
    ∙ ap (moved_link (landing_at c.args.s.now c.args.first)) (c.next_of-next.ensures ∙ ap (λ b. next_by (record_links b)) (lent_bytes _ _ c.in-Ok-Record.ensures c.in-Ok-Record.field-0-is)) in
    let inner = c.innermost.ensures ∙ ap (λ l. innermost (reverse l)) c.deref.ensures.0 in
    let written = c.put_parent_and_next.ensures ∙ (λ i. put_parent_and_next c.in-Ok-Record.r.kind (c.loop-r.here.to + 2) (inner i) c.moved_link-next.result (c.put-in-Ok-Record.ensures i)) in
    rw c.behind-here.ensures (opens_turn g it (role_here g it c.in-Opens.ensures) next written c.push.ensures.items c.moved_link-next.ensures.known)

pub overflow_add-innermost : goal.overflow_add-innermost
overflow_add-innermost c =
    let it = record_of _ _ c.in-Ok-Record.ensures c.in-Ok-Record.field-0-is in
    let g = c.loop-r.invariant in
    omega (arith, c.innermost-in-Closes.ensures ∙ ap (λ l. innermost (reverse l)) c.deref-in-Closes.ensures.0, inner_within g it (role_here g it c.in-Closes.ensures), here_fits g it)

pub put_end-requires-clause-within : goal.put_end-requires-clause-within
put_end-requires-clause-within c =
    let it = record_of _ _ c.in-Ok-Record.ensures c.in-Ok-Record.field-0-is in
    let g = c.loop-r.invariant in
    rw (c.put-in-Ok-Record.ensures, copied_length g it, c.innermost-in-Closes.ensures ∙ ap (λ l. innermost (reverse l)) c.deref-in-Closes.ensures.0) (end_fits g it (role_here g it c.in-Closes.ensures))

pub put_end-requires-clause-fits : goal.put_end-requires-clause-fits
put_end-requires-clause-fits c =
    let it = record_of _ _ c.in-Ok-Record.ensures c.in-Ok-Record.field-0-is in
    omega (arith, here_fits c.loop-r.invariant it, step_fits _ _ _ it)

pub loop-r-preserved : goal.loop-r-preserved
loop-r-preserved c =
    let it = record_of _ _ c.in-Ok-Record.ensures c.in-Ok-Record.field-0-is in
    let g = c.loop-r.invariant in
    let inner = c.innermost-in-Closes.ensures ∙ ap (λ l. innermost (reverse l)) c.deref-in-Closes.ensures.0 in
    let written = c.put_end.ensures ∙ (λ i. put_u32 (inner i + 2 + 6) c.loop-r.here.to (c.put-in-Ok-Record.ensures i)) in
    rw c.behind-here.ensures (closes_turn g it (role_here g it c.in-Closes.ensures) written (search rules) c.moved_link-next.ensures.known)
