use Rattle.std.proofs.Common.{◌≡◌, drop, map}
use Rattle.std.specs.Prelude.{fold}
use Rattle.lexspec.specs.RuleViews.{rule_of}
use Rattle.lexlook_check.specs.Weights.{heavier, heaviest, rule_weight}
use Rattle.lexlook_check.proofs.weights.heaviest.Given as goal

-- the heaviest so far, and then of those that are left
abbrev pub invariant-loop-rule : goal.invariant-loop-rule
invariant-loop-rule l = fold heavier l.best (map rule_weight (map rule_of (drop l.rule-index l.rules))) ≡ heaviest (map rule_of l.rules)
