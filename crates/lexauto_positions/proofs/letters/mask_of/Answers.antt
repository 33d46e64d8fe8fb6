use Rattle.std.proofs.Common.{arith}
use Rattle.std.proofs.lemmas.Grind.{common_steps}
use Rattle.lexauto_positions.proofs.letters.mask_of.Goals as goal

pub loop-set-preserved : goal.loop-set-preserved
loop-set-preserved c = record {
  len = grind (arith, common_steps);
  told = λ q. grind (arith, common_steps, c.loop-set.invariant.told q);
}

pub returns : goal.returns
returns c = λ q. grind (arith, common_steps, c.loop-set.invariant.told q)
