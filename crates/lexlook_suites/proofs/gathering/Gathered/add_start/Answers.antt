use Rattle.lexlook_suites.specs.Gathers.{rules_by}
use Rattle.lexlook_suites.proofs.Collected.{adds_on}
use Rattle.lexlook_suites.proofs.gathering.Gathered.add_start.Goals as goal

pub returns-clause-adds : goal.returns-clause-adds
returns-clause-adds c =
    let R = rules_by c.args.machine.now in
    let p = c.args.dfa.now.parts in
    adds_on R p c.args.self.now c.add_end.new.self c.add_all_edges.new.self c.in_ok-add_end.ensures
    (adds_on R p c.add_end.new.self c.add_rules.new.self c.add_all_edges.new.self c.in_ok-add_rules.ensures
    (adds_on R p c.add_rules.new.self c.add_all_backing_up.new.self c.add_all_edges.new.self c.in_ok-add_all_backing_up.ensures c.in_ok-add_all_edges.ensures.adds))
