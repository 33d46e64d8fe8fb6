use Rattle.std.proofs.Common.{refl}
use Rattle.std.specs.Fmt.{digits}
use Rattle.lexlook_suites.proofs.laws.examples_of_suites.Goals as goal

pub returns : goal.returns
unfolding digits
returns c = record {
  none_comes = λ p q h. h.1;
  none_goes = λ p s t h. h.3.1;
  line = refl;
  no_bytes = refl;
  by_condition = λ i j a b. rw (a, b) refl;
  head = refl;
  none_left = refl;
  some_left = refl;
}
