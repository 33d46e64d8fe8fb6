use Rattle.std.proofs.Common.{arith}
use Rattle.std.proofs.lemmas.Grind.{common_steps}
use Rattle.lexauto_positions.proofs.letters.letters_of.Goals as goal

pub loop-rule-preserved : goal.loop-rule-preserved
loop-rule-preserved c = λ b q. grind (arith, common_steps, c.loop-rule.invariant b q)

pub returns : goal.returns
returns c = λ b q. grind (arith, common_steps, c.loop-rule.invariant b q)
