use Rattle.std.proofs.Common.{arith}
use Rattle.std.proofs.lemmas.Grind.{common_steps}
use Rattle.lexauto_positions.proofs.rules.Walked.pass.Goals as goal

pub returns-clause-accepted : goal.returns-clause-accepted
returns-clause-accepted = grind (arith, common_steps)

pub returns-clause-cursor : goal.returns-clause-cursor
returns-clause-cursor = grind (arith, common_steps)

pub returns-clause-followers : goal.returns-clause-followers
returns-clause-followers = grind (arith, common_steps)

pub returns-clause-front : goal.returns-clause-front
returns-clause-front = grind (arith, common_steps)

pub returns-in_err-passed-clause-accepted : goal.returns-in_err-passed-clause-accepted
returns-in_err-passed-clause-accepted = grind (arith, common_steps)

pub returns-in_err-passed-clause-cursor : goal.returns-in_err-passed-clause-cursor
returns-in_err-passed-clause-cursor = grind (arith, common_steps)

pub returns-in_err-passed-clause-followers : goal.returns-in_err-passed-clause-followers
returns-in_err-passed-clause-followers = grind (arith, common_steps)

pub returns-in_err-passed-clause-front : goal.returns-in_err-passed-clause-front
returns-in_err-passed-clause-front = grind (arith, common_steps)

pub returns-in_err-push-clause-accepted : goal.returns-in_err-push-clause-accepted
returns-in_err-push-clause-accepted = grind (arith, common_steps)

pub returns-in_err-push-clause-cursor : goal.returns-in_err-push-clause-cursor
returns-in_err-push-clause-cursor = grind (arith, common_steps)

pub returns-in_err-push-clause-followers : goal.returns-in_err-push-clause-followers
returns-in_err-push-clause-followers = grind (arith, common_steps)

pub returns-in_err-push-clause-front : goal.returns-in_err-push-clause-front
returns-in_err-push-clause-front = grind (arith, common_steps)

pub returns-then-not-passed-clause-accepted : goal.returns-then-not-passed-clause-accepted
returns-then-not-passed-clause-accepted = grind (arith, common_steps)

pub returns-then-not-passed-clause-cursor : goal.returns-then-not-passed-clause-cursor
returns-then-not-passed-clause-cursor = grind (arith, common_steps)

pub returns-then-not-passed-clause-followers : goal.returns-then-not-passed-clause-followers
returns-then-not-passed-clause-followers = grind (arith, common_steps)

pub returns-then-not-passed-clause-front : goal.returns-then-not-passed-clause-front
returns-then-not-passed-clause-front = grind (arith, common_steps)
