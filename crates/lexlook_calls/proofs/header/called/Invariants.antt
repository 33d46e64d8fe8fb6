use Rattle.std.proofs.Common.{◌≡◌, map, take}
use Rattle.lexspec.specs.RuleViews.{rule_of}
use Rattle.lexlook_calls.specs.Headers.{called}
use Rattle.lexlook_calls.proofs.header.called.Given as goal

abbrev pub invariant-loop-rule : goal.invariant-loop-rule
invariant-loop-rule l = map (λ n. n.items) l.names.items ≡ called (map rule_of (take l.rule-index l.rules))
