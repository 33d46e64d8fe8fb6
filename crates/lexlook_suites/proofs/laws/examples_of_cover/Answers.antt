use Rattle.std.proofs.Common.{refl, inl, inr}
use Rattle.std.specs.Fmt.{digits}
use Rattle.lexlook_suites.proofs.laws.examples_of_cover.Goals as goal

pub returns : goal.returns
unfolding digits
returns c = record {
  first_turn = inl (refl, refl);
  second_turn = inr (inl (refl, refl));
  not_at_its_text = λ h. elim h [
    | inl a ↦ (let e = a.1 in cc)
    | inr b ↦ elim b [ inl a ↦ (let e = a.0 in cc) | inr never ↦ never ]
  ];
  one_byte = refl;
  other_bytes = refl;
  of_rule = refl;
  of_all = refl;
  all_line = refl;
  rule_line = refl;
  no_rule = refl;
  none_more = refl;
  some_more = refl;
}
