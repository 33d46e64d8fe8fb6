use Rattle.std.proofs.Common.{◌<◌, ◌≤◌, ◌∙◌, arith, length, rules}
use Rattle.std.proofs.lemmas.List.{get_or_default}
use Rattle.lexlook_counts.proofs.Tallying.{turns_more, turns_past}
use Rattle.lexlook_counts.proofs.tally.count_turn.Goals as goal

pub returns-then-condition-len : goal.returns-then-condition-len
returns-then-condition-len c n costs t is here =
    let xs = c.args.turns.now.items in
    let low : c.args.condition < length xs = first_of (search rules, grind arith) in
    turns_more n c.args.condition costs t c.index.result.now c.saturating_add.result xs is here low (c.index.ensures ∙ get_or_default xs c.args.condition c.index.result.now 0 low) c.saturating_add.ensures

pub returns-else-condition-len : goal.returns-else-condition-len
returns-else-condition-len c n costs t is here =
    let past : length c.args.turns.now.items ≤ c.args.condition = first_of (search rules, grind arith) in
    turns_past n c.args.condition costs t c.args.turns.now.items is here past
