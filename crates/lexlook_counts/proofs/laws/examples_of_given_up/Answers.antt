use Rattle.std.proofs.Common.{refl}
use Rattle.std.specs.Fmt.{digits}
use Rattle.lexlook_counts.proofs.Exampled.{at_one, at_three}
use Rattle.lexlook_counts.proofs.laws.examples_of_given_up.Goals as goal

pub returns : goal.returns
unfolding digits
returns c = record {
  turns = (record { matches = _; all = at_three; rules_are = refl }, (record { matches = _; all = at_one; rules_are = refl }, tt));
  counts = refl;
  matched = refl;
  only = refl;
  not_never = refl;
  never = refl;
  json = refl;
}
