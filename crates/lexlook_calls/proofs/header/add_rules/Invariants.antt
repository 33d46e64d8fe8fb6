use Rattle.std.proofs.Common.{◌≡◌, ◌++◌, flat_map, map}
use Rattle.std.specs.List.{range_with_len}
use Rattle.lexlook_calls.specs.Headers.{rule_line}
use Rattle.lexlook_calls.proofs.header.add_rules.Given as goal

abbrev pub invariant-loop-rule : goal.invariant-loop-rule
invariant-loop-rule l = l.text.items ≡ l.fn.text.items ++ flat_map (rule_line l.language (map (λ n. n.items) l.names)) (range_with_len 0 l.rule)
