use Rattle.lexre.proofs.CuttingLaws.{past_first, past_second}
use Rattle.lexre.proofs.cutting.CuttingSoFar.past_slash.Goals as goal

pub returns-in-None-clause-ending : goal.returns-in-None-clause-ending
returns-in-None-clause-ending c = λ ps. past_first _ _ _ _ c.args.at ps c.if-self-gt0.false c.in-None.is

pub returns-in-Some-clause-ending : goal.returns-in-Some-clause-ending
returns-in-Some-clause-ending c = λ ps. past_second _ _ _ _ _ c.args.at ps c.if-self-gt0.false c.in-Some.is
