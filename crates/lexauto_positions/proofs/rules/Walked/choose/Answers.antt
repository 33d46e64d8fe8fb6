use Rattle.std.proofs.Common.{arith}
use Rattle.std.proofs.lemmas.Grind.{common_steps}
use Rattle.lexauto_positions.proofs.rules.Walked.choose.Goals as goal

pub returns-clause-accepted : goal.returns-clause-accepted
returns-clause-accepted = grind (arith, common_steps)

pub returns-clause-followers : goal.returns-clause-followers
returns-clause-followers = grind (arith, common_steps)

pub returns-then-all-clause-accepted : goal.returns-then-all-clause-accepted
returns-then-all-clause-accepted = grind (arith, common_steps)

pub returns-then-all-clause-followers : goal.returns-then-all-clause-followers
returns-then-all-clause-followers = grind (arith, common_steps)
