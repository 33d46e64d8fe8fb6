use Rattle.std.proofs.Common.{map}
use Rattle.lexlook_specs.proofs.Joining.{more_in_range}
use Rattle.lexlook_calls.specs.Headers.{rule_line}
use Rattle.lexlook_calls.proofs.header.add_rules.Goals as goal

pub loop-rule-preserved : goal.loop-rule-preserved
loop-rule-preserved c = more_in_range (rule_line c.args.language (map (λ n. n.items) c.args.names.now)) _ _ _ c.loop-rule.rule c.loop-rule.invariant c.in_ok-add_rule.ensures
