use Rattle.std.proofs.Common.{arith}
use Rattle.std.proofs.lemmas.Grind.{common_steps}
use Rattle.lexauto_positions.proofs.counting.count_positions.Goals as goal

pub loop-rule-preserved : goal.loop-rule-preserved
loop-rule-preserved = grind (arith, common_steps)

pub returns-clause-found : goal.returns-clause-found
returns-clause-found = grind (arith, common_steps)

pub returns-clause-none : goal.returns-clause-none
returns-clause-none = grind (arith, common_steps)

pub returns-clause-within : goal.returns-clause-within
returns-clause-within = grind (arith, common_steps)

pub returns-in_err-more-clause-found : goal.returns-in_err-more-clause-found
returns-in_err-more-clause-found = grind (arith, common_steps)

pub returns-in_err-more-clause-none : goal.returns-in_err-more-clause-none
returns-in_err-more-clause-none = grind (arith, common_steps)

pub returns-in_err-more-clause-within : goal.returns-in_err-more-clause-within
returns-in_err-more-clause-within = grind (arith, common_steps)

pub returns-then-more-from-clause-found : goal.returns-then-more-from-clause-found
returns-then-more-from-clause-found = grind (arith, common_steps)

pub returns-then-more-from-clause-none : goal.returns-then-more-from-clause-none
returns-then-more-from-clause-none = grind (arith, common_steps)

pub returns-then-more-from-clause-within : goal.returns-then-more-from-clause-within
returns-then-more-from-clause-within = grind (arith, common_steps)
