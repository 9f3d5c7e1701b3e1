-- `names::before_near_zero` meets its contract.
use Rattle.std.proofs.Common.{rules, arith}
use Rattle.names.proofs.Run.{run_zero, run_more, run_within, run_rest}
use Rattle.names.proofs.before_near_zero.Goals as goal

pub loop-n-init : goal.loop-n-init
loop-n-init c = search rules

pub returns-then-s-n-eq0 : goal.returns-then-s-n-eq0
returns-then-s-n-eq0 c =
    let e = run_zero c.args.s.now c.loop-n.n (omega (arith, c.min-near.ensures, c.loop-n-test.true)) c.if-s-n-eq0.true in
    omega (arith, e, c.loop-n.invariant)

pub loop-n-preserved : goal.loop-n-preserved
loop-n-preserved c =
    let e = run_more c.args.s.now c.loop-n.n (omega (arith, c.min-near.ensures, c.loop-n-test.true)) c.if-s-n-eq0.false in
    omega (arith, e, c.loop-n.invariant)

pub overflow_add-result : goal.overflow_add-result
overflow_add-result c =
    let all = run_rest c.args.s.now c.min-near.result c.loop-n.n c.before_zero.result c.loop-n.auto.n-end c.loop-n-test.false c.loop-n.invariant c.before_zero.ensures in
    let within = run_within c.args.s.now in
    rw all (search rules)

pub returns : goal.returns
returns c = run_rest c.args.s.now c.min-near.result c.loop-n.n c.before_zero.result c.loop-n.auto.n-end c.loop-n-test.false c.loop-n.invariant c.before_zero.ensures
