-- `check_nesting::check` meets its contract.
use Rattle.std.proofs.Common.{rules, arith, ◌∙◌}
use Rattle.check_nesting.proofs.Checks.{checking_first, turned, yielded, acted, at_refused, at_last, push_room, go_stay, go_push, go_pop, at_refusing}
use Rattle.check_nesting.proofs.Sums.{sums}
use Rattle.check_nesting.proofs.check.Goals as goal

pub loop-stack-init : goal.loop-stack-init
loop-stack-init c =
    let z = c.default-n.ensures in
    checking_first _ _ c.new-stack.ensures
    (λ i. record { records = z.0 i; bytes = z.1.0 i; fillers = z.1.1.0 i; filler_bytes = z.1.1.1.0 i; openers = z.1.1.1.1.0 i; deepest = z.1.1.1.1.1 i })

pub returns-in_err-scan-clause-value : goal.returns-in_err-scan-clause-value
returns-in_err-scan-clause-value c = search (rules, at_refused (turned c.loop-stack.invariant c.scan_at-scan.ensures) c.in_err-scan.was)

pub returns-in-End-clause-value : goal.returns-in-End-clause-value
returns-in-End-clause-value c = c.at_end.ensures ∙ rw c.deref.ensures.0 (at_last (turned c.loop-stack.invariant c.scan_at-scan.ensures) c.in_ok-scan.was c.in-End.is)

pub returns-in-End-clause-adds_up : goal.returns-in-End-clause-adds_up
returns-in-End-clause-adds_up c = sums _ _ _ (c.at_end.ensures ∙ rw c.deref.ensures.0 (at_last (turned c.loop-stack.invariant c.scan_at-scan.ensures) c.in_ok-scan.was c.in-End.is))

pub returns-in_err-act_at-in-Record-clause-value : goal.returns-in_err-act_at-in-Record-clause-value
returns-in_err-act_at-in-Record-clause-value c = let y = yielded c.loop-stack.invariant c.scan_at-scan.ensures c.in_ok-scan.was c.in-Record.is in search (rules, at_refusing y (acted y c.deref-in-Record.ensures.0 c.in_err-act_at-in-Record.ensures))

pub loop-stack-preserved-in-Stay : goal.loop-stack-preserved-in-Stay
loop-stack-preserved-in-Stay c = let y = yielded c.loop-stack.invariant c.scan_at-scan.ensures c.in_ok-scan.was c.in-Record.is in go_stay y (acted y c.deref-in-Record.ensures.0 c.in_ok-act_at-in-Record.ensures) c.in-Stay.is

pub push-requires : goal.push-requires
push-requires c = let y = yielded c.loop-stack.invariant c.scan_at-scan.ensures c.in_ok-scan.was c.in-Record.is in let room = push_room y (acted y c.deref-in-Record.ensures.0 c.in_ok-act_at-in-Record.ensures) c.in-Push.is in (omega arith, room)

pub loop-stack-preserved-in-Push : goal.loop-stack-preserved-in-Push
loop-stack-preserved-in-Push c = let y = yielded c.loop-stack.invariant c.scan_at-scan.ensures c.in_ok-scan.was c.in-Record.is in go_push y (acted y c.deref-in-Record.ensures.0 c.in_ok-act_at-in-Record.ensures) c.in-Push.is (search rules) (omega arith)

pub loop-stack-preserved : goal.loop-stack-preserved
loop-stack-preserved c = let y = yielded c.loop-stack.invariant c.scan_at-scan.ensures c.in_ok-scan.was c.in-Record.is in go_pop y (acted y c.deref-in-Record.ensures.0 c.in_ok-act_at-in-Record.ensures) c.in-Pop.is (search rules)
