-- Worked examples of the names of rules. (This project's.)
use Rattle.std.specs.Prelude.{◌≡◌, ℕ, List, [], ◌∷◌, codes}
use Rattle.lex_semantics.specs.Spec.{Echo, Print, Begin}
use Rattle.lex_names.specs.RuleNames.{rule_name}

-- a rule that writes this literal alone
abbrev pub named_by : List ℕ → List ℕ
named_by bytes = rule_name (Print bytes ∷ [])

-- What puts and printf write; the first of two literals, behind statements that write none; and two that are one.
pub record NamedRules : Type 0 where
  pub put : named_by (codes "NUMBER\n") ≡ codes "NUMBER"
  pub printed : named_by (codes "_a1") ≡ codes "_a1"
  pub first : rule_name (Begin 1 ∷ Echo ∷ Print (codes "ONE\n") ∷ Echo ∷ Print (codes "TWO\n") ∷ []) ≡ codes "ONE"
  pub joined : named_by (codes "ONE\nTWO\n") ≡ codes "ONE"

-- No literal; an empty line; a digit first; a sign that flex has in names, and C has not; more on the line than a name.
pub record RulesWithoutName : Type 0 where
  pub silent : rule_name (Echo ∷ []) ≡ []
  pub empty_line : rule_name (Print (codes "\n") ∷ Echo ∷ Print (codes "ONE\n") ∷ []) ≡ []
  pub digit : named_by (codes "1a\n") ≡ []
  pub dash : named_by (codes "a-b\n") ≡ []
  pub text : rule_name (Print (codes "ONE ") ∷ Echo ∷ Print (codes "\n") ∷ []) ≡ []
