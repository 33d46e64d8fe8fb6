-- A worked example of states whose first rule sets a start condition, does yymore, and no more. (flex, Actions.)
use Rattle.std.specs.Prelude.{true, cond, [], ◌∷◌, ◌==◌}
use Rattle.lex_semantics.specs.Spec.{Begin, More, Whole, Trail}
use Rattle.lex_semantics.specs.Machine.{Machine}
use Rattle.lex_machine.specs.Glances.{FirstBegins}

-- Of the rules `a/b BEGIN(1); yymore();` and `a. BEGIN(1);`: state 2 accepts both, state 3 the second alone, which some
-- other machine might put first.
abbrev pub begun : Machine
begun = record {
  conditions = 2;
  count = 2;
  start = λ c line_start. 1;
  next = λ s b. 0;
  accepts = λ s. cond (s == 2) (0 ∷ 1 ∷ []) (cond (s == 3) (1 ∷ 0 ∷ []) []);
  goes_on = λ s. true;
  cut = λ i. cond (i == 0) (Trail 1) Whole;
  statements = λ i. cond (i == 0) (Begin 1 ∷ More ∷ []) (Begin 1 ∷ []);
  ending = λ c. record { print = []; status = 0 };
}

-- The first rule of state 2 keeps all but the last byte, and sets condition 1. That of state 3 does no yymore, and the
-- start accepts no rule.
pub record BeginExamples : Type 0 where
  pub first : FirstBegins begun 2 (Trail 1) 1
  pub keeps_less : FirstBegins begun 2 Whole 1 → ⊥
  pub sets_another : FirstBegins begun 2 (Trail 1) 0 → ⊥
  pub second_alone : FirstBegins begun 3 (Trail 1) 1 → ⊥
  pub no_yymore : FirstBegins begun 3 Whole 1 → ⊥
  pub no_rule : FirstBegins begun 1 Whole 1 → ⊥
