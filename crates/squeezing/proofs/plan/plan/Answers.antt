-- `squeezing::plan::plan` meets its contract.
use Rattle.std.proofs.Common.{rules, sym}
use Rattle.squeezing.proofs.First.{check_refused, front_nests, front_counted, plan_refused, plan_is}
use Rattle.squeezing.proofs.plan.plan.Goals as goal

pub returns-in_err-counts : goal.returns-in_err-counts
returns-in_err-counts c = search (rules, check_refused c.args.s.now c.args.start c.in_err-counts.ensures.value)

pub squeezed_length-requires : goal.squeezed_length-requires
squeezed_length-requires c = front_nests _ _ (sym c.in_ok-counts.ensures.value) c.front_of-front.ensures

pub returns-in_err-length : goal.returns-in_err-length
returns-in_err-length c = search (rules, plan_refused _ _ (sym c.in_ok-counts.ensures.value) c.front_of-front.ensures c.in_err-length.ensures)

pub overflow_sub-result : goal.overflow_sub-result
overflow_sub-result c = front_counted _ _ (sym c.in_ok-counts.ensures.value) c.front_of-front.ensures

pub returns : goal.returns
returns c = plan_is _ _ (sym c.in_ok-counts.ensures.value) c.front_of-front.ensures c.in_ok-length.ensures
