use Rattle.lexlook_suites.specs.Gathers.{rules_by}
use Rattle.lexlook_suites.proofs.Suited.{all_gathered}
use Rattle.lexlook_suites.proofs.suite.gather.Goals as goal

pub returns-clause-all : goal.returns-clause-all
returns-clause-all c =
    let tree = c.in_ok-tree.tree in
    all_gathered (rules_by c.args.machine.now) c.args.dfa.now.parts c.add_start.new.self c.add_others.new.self c.first-way.result.text.items c.start_in.result tree.start tree.steps.items tree.places.items
    c.start_in.ensures.state c.in_ok-tree.ensures.start c.in_ok-tree.ensures.tree c.in_ok-add_start.ensures.edges c.first-way.ensures.text c.requires c.args.dfa.now.lawful.dead_stays c.in_ok-add_others.ensures
