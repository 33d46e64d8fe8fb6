use Rattle.std.proofs.Common.{◌<◌, ◌≤◌, ◌∙◌, arith, length, rules}
use Rattle.lexscan_window.specs.declared.matched.MatchedRule.TheVariants.{Numbered}
use Rattle.lexlook_counts.proofs.Tallying.{rule_at, rules_more, rules_past, this_rule}
use Rattle.lexlook_counts.proofs.tally.count_rule.Goals as goal

pub returns-then-rule-len : goal.returns-then-rule-len
returns-then-rule-len c n costs t is rule end behind =
    let xs = c.args.rules.now.items in
    let low : c.args.rule < length xs = first_of (search rules, grind arith) in
    rules_more n c.args.rule costs t c.with.result xs is rule low
    (c.with.ensures (Numbered c.args.rule) costs t (c.index.ensures ∙ rule_at n c.args.rule costs xs c.index.result.now is low) (this_rule c.args.rule t.token.rule rule) end behind)

pub returns-else-rule-len : goal.returns-else-rule-len
returns-else-rule-len c n costs t is rule end behind =
    let past : length c.args.rules.now.items ≤ c.args.rule = first_of (search rules, grind arith) in
    rules_past n c.args.rule costs t c.args.rules.now.items is rule past
