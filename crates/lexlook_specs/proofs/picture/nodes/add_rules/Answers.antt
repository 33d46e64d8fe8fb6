use Rattle.lexlook_specs.proofs.Joining.{among_read}
use Rattle.lexlook_specs.proofs.picture.nodes.add_rules.Goals as goal

pub bounds-lines-rule : goal.bounds-lines-rule
bounds-lines-rule c = c.requires _ (among_read c.args.rules.now c.loop-rule.rule-index c.loop-rule-test.true)
