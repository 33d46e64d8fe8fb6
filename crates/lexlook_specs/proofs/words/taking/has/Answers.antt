use Rattle.lexlook_specs.proofs.Takers.{any_answer}
use Rattle.lexlook_specs.proofs.words.taking.has.Goals as goal

pub returns-clause-yes : goal.returns-clause-yes
returns-clause-yes c = (any_answer c.args.rules.now c.args.rule c.contains.result c.contains.ensures.cases).0

pub returns-clause-no : goal.returns-clause-no
returns-clause-no c = (any_answer c.args.rules.now c.args.rule c.contains.result c.contains.ensures.cases).1
