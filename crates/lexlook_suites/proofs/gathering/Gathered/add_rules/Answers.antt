use Rattle.lexlook_suites.specs.Gathers.{rules_by}
use Rattle.lexlook_suites.proofs.Collected.{adds_none, adds_on}
use Rattle.lexlook_suites.proofs.gathering.Gathered.add_rules.Goals as goal

pub loop-place-init : goal.loop-place-init
loop-place-init c = adds_none (rules_by c.args.machine.now) c.args.dfa.now.parts c.args.self.now c.requires.gathered

pub add_rule-requires-clause-gathered : goal.add_rule-requires-clause-gathered
add_rule-requires-clause-gathered c = c.loop-place.invariant.gathered

pub loop-place-preserved : goal.loop-place-preserved
loop-place-preserved c = adds_on (rules_by c.args.machine.now) c.args.dfa.now.parts c.args.self.now c.loop-place.self c.add_rule.new.self c.loop-place.invariant c.in_ok-add_rule.ensures
