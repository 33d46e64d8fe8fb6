use Rattle.std.proofs.Common.{refl}
use Rattle.std.specs.Str.{is_utf8, chars}
use Rattle.lex_semantics.specs.ByteSets.{is_alpha, is_digit, is_alnum, is_upper, is_lower}
use Rattle.lex_semantics.specs.Reading.{take_up_to}
use Rattle.lexlook_check.proofs.laws.examples_of_notices.Goals as goal

pub returns : goal.returns
unfolding is_utf8 chars is_alpha is_digit is_alnum is_upper is_lower take_up_to lib.Utf8.encode
returns c = record { letters = refl; bytes = refl; quoted = refl; escape = refl; inside = refl; escaped = refl; backspace = refl; in_class = refl; in_quotes = refl; range = refl; negated = refl; cases = refl; ended = refl; behind = refl; no_class = refl; used = refl; longer = refl; alone = refl }
