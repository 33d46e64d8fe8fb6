use Rattle.std.proofs.Common.{◌≡◌, ℕ, ◌+◌, ◌||◌, false, drop, map}
use Rattle.lex_semantics.specs.Active.{contains}
use Rattle.lex_semantics.specs.Subsets.{all_positions}
use Rattle.lex_semantics.specs.Text.{flag}
use Rattle.lexauto_positions.specs.Cursors.{IsFront}
use Rattle.lexauto_positions.specs.Laid.{shape_of, HaveSized}
use Rattle.lexauto_positions.specs.RuleFlow.{rules_enter}
use Rattle.lexauto_positions.proofs.rules.enter_rules.Given as goal

abbrev pub invariant-loop-i : goal.invariant-loop-i
invariant-loop-i l = record {
  sized : HaveSized (drop l.i l.rules);
  place : l.base + all_positions (map shape_of (drop l.i l.rules)) ≡ all_positions (map shape_of l.rules);
  front : IsFront l.next.items l.base;
  told : (q : ℕ) → (contains l.next.items q || rules_enter (map shape_of (drop l.i l.rules)) (flag l.on) (λ _. false) q l.i l.base)
      ≡ rules_enter (map shape_of l.rules) (flag l.on) (λ _. false) q 0 0;
}
