use Rattle.std.proofs.Common.{arith}
use Rattle.lexlook_suites.proofs.Treed.{tree_past}
use Rattle.lexlook_suites.proofs.trees.Tree.expand.Goals as goal

pub returns-clause-tree : goal.returns-clause-tree
returns-clause-tree c =
    let end = c.loop-rank-test.false in
    let most = c.loop-rank.auto.rank-end in
    tree_past c.args.dfa.now.parts c.loop-rank.self.start c.loop-rank.self.steps.items c.loop-rank.self.places.items c.args.place c.loop-rank.rank c.loop-rank.invariant.tree c.loop-rank.invariant.past (omega (arith, end, most))
