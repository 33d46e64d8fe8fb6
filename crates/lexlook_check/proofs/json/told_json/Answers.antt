use Rattle.std.proofs.Common.{arith}
use Rattle.std.proofs.lemmas.Grind.{common_steps}
use Rattle.lexlook_check.proofs.json.told_json.Goals as goal

pub loop-finding-preserved : goal.loop-finding-preserved
loop-finding-preserved c = grind (arith, common_steps)
