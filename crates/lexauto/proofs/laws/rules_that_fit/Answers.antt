use Rattle.lexauto.proofs.Accepting.{rules_fit}
use Rattle.lexauto.proofs.laws.rules_that_fit.Goals as goal

pub returns : goal.returns
returns c = λ S sound co line_start w some k h i. rules_fit S sound co line_start w some k h i
