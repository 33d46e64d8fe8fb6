use Rattle.std.proofs.Common.{◌≡◌, ℕ, length, subst, arith}
use Rattle.lexlook_suites.specs.Trees.{IsTree}
use Rattle.lexlook_suites.proofs.trees.tree_of.Goals as goal

pub returns-clause-tree : goal.returns-clause-tree
returns-clause-tree c =
    let p = c.args.dfa.now.parts in
    let steps = c.loop-place.tree.steps.items in
    let places = c.loop-place.tree.places.items in
    let within = c.loop-place.invariant.within in
    let end = c.loop-place-test.false in
    let all : c.loop-place.place ≡ length steps = omega (arith, within, end, c.len.ensures, c.loop-place.tree.steps.ok.0) in
    subst (λ (k : ℕ). IsTree p c.args.start steps places k) all (subst (λ (a : ℕ). IsTree p a steps places c.loop-place.place) c.loop-place.invariant.start c.loop-place.invariant.tree)
