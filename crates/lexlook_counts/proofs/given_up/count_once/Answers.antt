use Rattle.std.proofs.Common.{◌<◌, ◌≤◌, ◌∙◌, arith, length, rules}
use Rattle.std.proofs.lemmas.List.{get_or_default}
use Rattle.lexlook_counts.proofs.Giving.{counts_one, counts_past}
use Rattle.lexlook_counts.proofs.given_up.count_once.Goals as goal

pub returns-then-rule-len : goal.returns-then-rule-len
returns-then-rule-len c n before is =
    let xs = c.args.counts.now.items in
    let low : c.args.rule < length xs = first_of (search rules, grind arith) in
    counts_one n c.args.rule before c.index.result.now c.saturating_add.result xs is low (c.index.ensures ∙ get_or_default xs c.args.rule c.index.result.now 0 low) c.saturating_add.ensures

pub returns-else-rule-len : goal.returns-else-rule-len
returns-else-rule-len c n before is =
    let past : length c.args.counts.now.items ≤ c.args.rule = first_of (search rules, grind arith) in
    counts_past n c.args.rule before c.args.counts.now.items is past
