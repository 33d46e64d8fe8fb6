use Rattle.std.proofs.Common.{◌≡◌, Bool, true, false, List, ◌∷◌, refl, ap}
use Rattle.lex_semantics.specs.Spec.{Statement, Echo}
use Rattle.lexlook_tables.specs.Same.{Deed}
use Rattle.lexlook_tables.proofs.same.examples.examples_of_same.Goals as goal

abbrev is_echo : List Statement → Bool
is_echo (Echo ∷ ss) = true
is_echo ss = false

abbrev second_echoes : List Deed → Bool
second_echoes (d ∷ e ∷ ds) = is_echo e.statements
second_echoes ds = false

differ : true ≡ false → ⊥
differ e = cc

pub returns : goal.returns
returns c = record {
  copied = refl;
  longer_copied = λ e. cc;
  unmatched = refl;
  printed = λ e. cc;
  silent = λ e. cc;
  rejected = refl;
  rejected_longer = λ e. cc;
  rejected_twice = λ e. differ (ap second_echoes e);
  taken = refl;
  cut = λ e. cc;
}
