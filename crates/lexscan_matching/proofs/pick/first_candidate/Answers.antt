use Rattle.lexscan_matching.proofs.Descending as Down
use Rattle.lexscan_matching.proofs.pick.first_candidate.Goals as goal

pub rule-cut-requires : goal.rule-cut-requires
rule-cut-requires g c = c.requires.known _ (Down.among_get c.args.rules.now c.loop-rule.rule-index c.loop-rule-test.true)

pub returns-in-Some-clause-known : goal.returns-in-Some-clause-known
returns-in-Some-clause-known g c = c.requires.known _ (Down.among_get c.args.rules.now c.loop-rule.rule-index c.loop-rule-test.true)
