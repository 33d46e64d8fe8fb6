use Rattle.std.proofs.Common.{refl}
use Rattle.lex_semantics.specs.ByteSets.{is_blank}
use Rattle.lexlook_check.proofs.laws.examples_of_leaving.Goals as goal

pub returns : goal.returns
unfolding is_blank
returns c = record { one = refl; braces = refl; last = refl; behind = refl; none = refl }
