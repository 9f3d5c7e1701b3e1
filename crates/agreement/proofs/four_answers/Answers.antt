-- `agreement::four_answers` meets its contract.
use Rattle.agreement.proofs.Agreement.{condition3}
use Rattle.agreement.proofs.four_answers.Goals as goal

pub returns-clause-condition3 : goal.returns-clause-condition3
returns-clause-condition3 c = rw (c.check-checked.ensures.value, c.walk-walked.ensures, c.jump-jumped.ensures, c.climb-climbed.ensures) (condition3 _ _ _)
