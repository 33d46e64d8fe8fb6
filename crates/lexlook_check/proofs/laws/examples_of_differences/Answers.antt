use Rattle.std.proofs.Common.{refl}
use Rattle.lex_semantics.specs.ByteSets.{has, set_of, single, is_alpha, is_digit, is_alnum, is_blank, is_upper, is_lower}
use Rattle.lex_semantics.specs.Escapes.{simple_escape, octal_at, hexadecimal_at, until_quote}
use Rattle.lex_semantics.specs.Reading.{take_up_to}
use Rattle.lexre_bytes.specs.Lexical.{after_word, run_at, escape_at, class_name_at, enclosed_by, bracketed_at, range_at, element_at, elements_at, class_at, span}
use Rattle.lexlook_check.proofs.laws.examples_of_differences.Goals as goal

pub returns : goal.returns
unfolding has set_of single is_alpha is_digit is_alnum is_blank is_upper is_lower take_up_to after_word run_at escape_at class_name_at enclosed_by bracketed_at range_at element_at elements_at class_at span simple_escape octal_at hexadecimal_at until_quote
returns c = record {
  all = refl;
  at_fault = refl;
  names = record { ended = refl; branch = refl; whole = refl; branches = refl; nested = refl; midst = refl; enclosed = refl; head = refl; interval = refl; inside = refl; others = refl };
  heads = record { star = refl; none = refl; choice = refl; series = refl; once = refl; behind = refl; choices = refl; alone = refl };
  ends = record { listed = refl; lists = refl; every = refl; left = refl; longer = refl; pattern = refl; none = refl };
  returns = record { within = refl; several = refl; last = refl; ended = refl };
}
