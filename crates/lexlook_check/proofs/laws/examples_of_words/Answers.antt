use Rattle.std.proofs.Common.{refl}
use Rattle.lex_semantics.specs.ByteSets.{is_alpha, is_digit, is_alnum, is_blank, is_upper, is_lower}
use Rattle.lex_semantics.specs.Reading.{take_up_to}
use Rattle.lexlook_check.proofs.laws.examples_of_words.Goals as goal

pub returns : goal.returns
unfolding is_alpha is_digit is_alnum is_blank is_upper is_lower take_up_to
returns c = record { condition = refl; statement = refl; option = refl; name = refl; class = refl; known = refl; defined_again = refl; declared_again = refl; always = refl; inside = refl; interval = refl }
