use Rattle.std.proofs.Common.{◌≡◌, ℕ, subst, arith}
use Rattle.lexlook_suites.specs.Gathers.{HasAllEdges, rules_by}
use Rattle.lexlook_suites.proofs.Collected.{adds_none, adds_on, all_edges_more}
use Rattle.lexlook_suites.proofs.gathering.Gathered.add_all_edges.Goals as goal

pub loop-place-init : goal.loop-place-init
loop-place-init c = record {
  within = omega (arith, c.len-place.ensures, c.args.tree.now.steps.ok.0);
  adds = adds_none (rules_by c.args.machine.now) c.args.dfa.now.parts c.args.self.now c.requires.gathered;
  edges = λ first j le low. absurd (omega (arith, le, low, c.len-place.ensures, c.args.tree.now.steps.ok.0));
}

pub add_edges-requires-clause-gathered : goal.add_edges-requires-clause-gathered
add_edges-requires-clause-gathered c = c.loop-place.invariant.adds.gathered

pub loop-place-preserved : goal.loop-place-preserved
loop-place-preserved c =
    let R = rules_by c.args.machine.now in
    let p = c.args.dfa.now.parts in
    let steps = c.args.tree.now.steps.items in
    let within = c.loop-place.invariant.within in
    let some = c.loop-place-test.true in
    record {
      within = omega (arith, within, some);
      adds = adds_on R p c.args.self.now c.loop-place.self c.add_edges.new.self c.loop-place.invariant.adds c.in_ok-add_edges.ensures.adds;
      edges = λ first. all_edges_more R p c.loop-place.self c.add_edges.new.self c.in_ok-add_edges.ensures.adds c.args.tree.now.start steps _ c.loop-place.place (omega (arith, some)) c.requires.tree (c.loop-place.invariant.edges first) (c.in_ok-add_edges.ensures.edges first);
    }

pub returns-clause-adds : goal.returns-clause-adds
returns-clause-adds c = c.loop-place.invariant.adds

pub returns-clause-edges : goal.returns-clause-edges
returns-clause-edges c = λ first.
    let end = c.loop-place-test.false in
    let none : c.loop-place.place ≡ 0 = omega (arith, end) in
    subst (λ (k : ℕ). HasAllEdges (rules_by c.args.machine.now) c.args.dfa.now.parts c.loop-place.self c.args.tree.now.steps.items k) none (c.loop-place.invariant.edges first)
