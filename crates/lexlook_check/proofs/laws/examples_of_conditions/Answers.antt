use Rattle.std.proofs.Common.{refl}
use Rattle.lex_semantics.specs.ByteSets.{is_alpha, is_digit, is_alnum, is_blank, is_upper, is_lower}
use Rattle.lex_semantics.specs.Reading.{take_up_to}
use Rattle.lexlook_check.proofs.laws.examples_of_conditions.Goals as goal

pub returns : goal.returns
unfolding is_alpha is_digit is_alnum is_blank is_upper is_lower take_up_to
returns c = record {
  none = (refl, refl);
  both = (refl, refl);
  itself = (refl, refl);
  back = (refl, refl);
  ended = (refl, refl);
  places = refl;
  exclusive = refl;
  inclusive = refl;
  outside = refl;
  each = refl;
  initial = refl;
  kept = refl;
}
