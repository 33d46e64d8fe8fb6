use Rattle.lexre_bytes.proofs.WordLaws.{none_below, some_there}
use Rattle.lexre_bytes.proofs.words.first_one.Goals as goal

pub returns-clause-none : goal.returns-clause-none
returns-clause-none c = λ i low. none_below c.args.word i c.ranges.word.fits low

pub returns-clause-one : goal.returns-clause-one
returns-clause-one c = λ low. some_there c.args.word c.ranges.word.fits low
