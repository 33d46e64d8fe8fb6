use Rattle.lextab_file.proofs.Whole.{file_not_refused, file_if_not_refused, trailing_told, front_if_trailing}
use Rattle.lextab_file.proofs.Steady.{whatever_follows, cut_short}
use Rattle.lextab_file.proofs.laws.laws_of_refusals.Goals as goal

pub returns-clause-file : goal.returns-clause-file
returns-clause-file c = λ bytes fits. ((λ r. file_if_not_refused bytes fits r), (λ (t, f). file_not_refused bytes t f))

pub returns-clause-trailing : goal.returns-clause-trailing
returns-clause-trailing c = λ bytes fits. ((λ r. front_if_trailing bytes fits r), (λ (t, rest, ok, e, more). trailing_told bytes t rest ok e more))

pub returns-clause-front : goal.returns-clause-front
returns-clause-front c = cut_short

pub returns-clause-first : goal.returns-clause-first
returns-clause-first c = whatever_follows
