use Rattle.std.proofs.Common.{◌≡◌, drop, map}
use Rattle.lex_semantics.specs.Spec.{any_reject}
use Rattle.lexspec.specs.RuleViews.{rule_of}
use Rattle.lexspec.proofs.spec.Spec.rejects.Given as goal

abbrev pub invariant-loop-i : goal.invariant-loop-i
invariant-loop-i l = any_reject (map rule_of (drop l.i l.self.rules.items)) ≡ any_reject (map rule_of l.self.rules.items)
