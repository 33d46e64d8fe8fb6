use Rattle.std.proofs.Common.{arith}
use Rattle.std.proofs.lemmas.Grind.{common_steps}
use Rattle.lexauto_positions.proofs.walk.copies_of.Goals as goal

pub returns-in-None-clause-count : goal.returns-in-None-clause-count
returns-in-None-clause-count = grind (arith, common_steps)

pub returns-in-None-clause-least : goal.returns-in-None-clause-least
returns-in-None-clause-least = grind (arith, common_steps)

pub returns-in-None-clause-loops : goal.returns-in-None-clause-loops
returns-in-None-clause-loops = grind (arith, common_steps)

pub returns-in-Some-clause-count : goal.returns-in-Some-clause-count
returns-in-Some-clause-count = grind (arith, common_steps)

pub returns-in-Some-clause-least : goal.returns-in-Some-clause-least
returns-in-Some-clause-least = grind (arith, common_steps)

pub returns-in-Some-clause-loops : goal.returns-in-Some-clause-loops
returns-in-Some-clause-loops = grind (arith, common_steps)
