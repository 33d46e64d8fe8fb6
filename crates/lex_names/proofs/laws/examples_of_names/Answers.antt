use Rattle.std.proofs.Common.{refl}
use Rattle.lex_semantics.specs.ByteSets.{is_alnum, is_alpha, is_digit}
use Rattle.lex_semantics.specs.Reading.{take_up_to}
use Rattle.lex_names.proofs.laws.examples_of_names.Goals as goal

pub returns-clause-named : goal.returns-clause-named
unfolding is_alnum is_alpha is_digit take_up_to
returns-clause-named c = record { put = refl; printed = refl; first = refl; joined = refl }

pub returns-clause-none : goal.returns-clause-none
unfolding is_alnum is_alpha is_digit take_up_to
returns-clause-none c = record { silent = refl; empty_line = refl; digit = refl; dash = refl; text = refl }
