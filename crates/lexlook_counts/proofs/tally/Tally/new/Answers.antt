use Rattle.std.proofs.Common.{rules}
use Rattle.lexlook_counts.proofs.Tallying.{none_counted, rules_none, turns_none}
use Rattle.lexlook_counts.proofs.tally.Tally.new.Goals as goal

pub returns : goal.returns
returns c = record { of_rules = rules_none c.args.rules _ (search rules); of_default = none_counted; of_conditions = turns_none c.args.conditions _ (search rules) }
