-- The parts of a table one after another.
use Rattle.std.proofs.Common.{◌≡◌, ℕ, zero, suc, ◌+◌, ◌<◌, List, [], ◌∷◌, length, map, get_or, drop, sym, ap, ◌∙◌, arith}
use Rattle.std.specs.Prelude.{Bool}
use Rattle.lexspec_actions.specs.Views.{condition_of as condition_in}
use Rattle.lexspec_actions.specs.declared.condition.Condition.{Condition}
use Rattle.lexspec.specs.RuleViews.{rule_of as rule_in}
use Rattle.lexspec.specs.declared.rule.Rule.{Rule}
use Rattle.lextab.specs.Assembled.{conditions_with}

-- the condition at a place goes over to those that are done
pub next_condition : (start : ℕ → Bool → ℕ) (cs : List Condition) (i n : ℕ) (c : Condition) → n < length cs → c ≡ get_or cs n c
    → conditions_with start i (map condition_in (drop n cs)) ≡ conditions_with start i (condition_in c ∷ map condition_in (drop (n + 1) cs))
next_condition start [] i n c h e = absurd (omega (arith, h))
next_condition start (d ∷ cs) i zero c h e = ap (λ (x : Condition). conditions_with start i (condition_in x ∷ map condition_in cs)) (sym e)
next_condition start (d ∷ cs) i (suc n) c h e = next_condition start cs i n c (omega (arith, h)) e ∙ (let k : suc (n + 1) ≡ suc n + 1 = omega arith in ap (λ (m : ℕ). conditions_with start i (condition_in c ∷ map condition_in (drop m (d ∷ cs)))) k)

-- and the rule at a place
pub next_rule : (rs : List Rule) (n : ℕ) (r : Rule) → n < length rs → r ≡ get_or rs n r → map rule_in (drop n rs) ≡ rule_in r ∷ map rule_in (drop (n + 1) rs)
next_rule [] n r h e = absurd (omega (arith, h))
next_rule (s ∷ rs) zero r h e = ap (λ (x : Rule). rule_in x ∷ map rule_in rs) (sym e)
next_rule (s ∷ rs) (suc n) r h e = next_rule rs n r (omega (arith, h)) e ∙ (let k : suc (n + 1) ≡ suc n + 1 = omega arith in ap (λ (m : ℕ). rule_in r ∷ map rule_in (drop m (s ∷ rs))) k)
