use Rattle.std.proofs.Common.{refl}
use Rattle.lexlook_suites.proofs.Treed.{tree_of_none, tree_of_one}
use Rattle.lexlook_suites.proofs.trees.Tree.first.Goals as goal

pub returns-then-start-eq0-clause-tree : goal.returns-then-start-eq0-clause-tree
returns-then-start-eq0-clause-tree c =
    tree_of_none c.args.dfa.now.parts c.args.start c.in_ok-places.places.items c.new-steps.result.items c.in_ok-places.ensures.len c.in_ok-places.ensures.none c.if-start-eq0.true c.new-steps.ensures.items

pub returns-clause-tree : goal.returns-clause-tree
returns-clause-tree c =
    tree_of_one c.args.dfa.now.parts c.args.start c.in_ok-places.places.items _ c.new-steps.result.items c.push.new.self.items c.new-steps.ensures.items c.in_ok-places.ensures.len c.in_ok-places.ensures.none c.requires c.if-start-eq0.false refl c.in_ok-push.ensures.items
