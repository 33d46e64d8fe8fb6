use Rattle.lexkit.proofs.HeadlineOfKey.{headline_of_key}
use Rattle.lexkit.proofs.laws.example_of_the_headline.Goals as goal

pub returns : goal.returns
returns c = headline_of_key c.one_specification.ensures
