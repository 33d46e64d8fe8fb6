-- The worked examples of rules that do nothing but REJECT.
use Rattle.std.proofs.Common.{inl, inr, refl, subst, arith}
use Rattle.lex_semantics.specs.Machine.{Keeps}
use Rattle.lex_machine.specs.Quiets.{quiet, NoneFits}
use Rattle.lex_machine.specs.QuietExamples.{QuietExamples, letters}

-- after more than one letter
pub none_after_two : NoneFits (quiet letters) 3
none_after_two i (inl e) n k keeps = absurd (omega (arith, (subst (λ j. Keeps ((quiet letters).cut j) n k) e keeps).1))
none_after_two i (inr a) n k keeps = absurd a

pub quiet_examples : QuietExamples
quiet_examples = record {
  alone = refl;
  written = refl;
  printed = refl;
  set = refl;
  nothing = refl;
  letter = λ none. none 1 (inr (inl refl)) 1 1 refl;
  letters_alone = none_after_two;
  given_up = λ none. none 0 (inl refl) 2 2 refl;
  still_goes_on = refl;
  still_accepts = refl;
  does_nothing = refl;
  still_prints = refl;
}
