use Rattle.std.proofs.Common.{refl}
use Rattle.lex_semantics.specs.ByteSets.{is_blank}
use Rattle.lexlook_text.proofs.laws.examples_of_names.Goals as goal

pub returns : goal.returns
unfolding is_blank
returns c = record { front = refl; cases = refl; doubled = refl; places = refl; nearer = refl; first = refl; none = refl; half = refl }
