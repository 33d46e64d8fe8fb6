use Rattle.std.proofs.Common.{◌≡◌, map, take}
use Rattle.lex_semantics.specs.Spec.{has_reject}
use Rattle.lexspec.specs.RuleViews.{rule_of}
use Rattle.lexlook_specs.proofs.words.actions.flags_of.Given as goal

abbrev pub invariant-loop-rule : goal.invariant-loop-rule
invariant-loop-rule l = l.flags.items ≡ map (λ r. has_reject r.statements) (map rule_of (take l.rule-index l.rules))
