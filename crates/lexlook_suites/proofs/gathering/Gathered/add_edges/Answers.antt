use Rattle.std.proofs.Common.{◌≡◌, ℕ, subst, arith}
use Rattle.lexlook_suites.specs.Gathers.{HasEdges, rules_by}
use Rattle.lexlook_suites.specs.Trees.{state_at}
use Rattle.lexlook_suites.proofs.Collected.{adds_none, adds_on, edges_more}
use Rattle.lexlook_suites.proofs.gathering.Gathered.add_edges.Goals as goal

pub loop-rank-init : goal.loop-rank-init
loop-rank-init c = record {
  adds = adds_none (rules_by c.args.machine.now) c.args.dfa.now.parts c.args.self.now c.requires.gathered;
  edges = λ first b low. absurd (omega (arith, low));
}

pub add_over-requires-clause-gathered : goal.add_over-requires-clause-gathered
add_over-requires-clause-gathered c = c.loop-rank.invariant.adds.gathered

pub loop-rank-preserved : goal.loop-rank-preserved
loop-rank-preserved c =
    let R = rules_by c.args.machine.now in
    let p = c.args.dfa.now.parts in
    let s = state_at c.args.tree.now.steps.items c.args.place in
    record {
      adds = adds_on R p c.args.self.now c.loop-rank.self c.add_over.new.self c.loop-rank.invariant.adds c.in_ok-add_over.ensures.adds;
      edges = λ first. edges_more R p c.loop-rank.self c.add_over.new.self c.in_ok-add_over.ensures.adds s c.loop-rank.rank c.byte_at.result (c.requires.tree c.args.place c.requires.place).known c.byte_at.ensures (c.loop-rank.invariant.edges first) (c.in_ok-add_over.ensures.over first);
    }

pub returns-clause-adds : goal.returns-clause-adds
returns-clause-adds c = c.loop-rank.invariant.adds

pub returns-clause-edges : goal.returns-clause-edges
returns-clause-edges c = λ first.
    let end = c.loop-rank-test.false in
    let most = c.loop-rank.auto.rank-end in
    let all : c.loop-rank.rank ≡ 256 = omega (arith, end, most) in
    subst (λ (n : ℕ). HasEdges (rules_by c.args.machine.now) c.args.dfa.now.parts c.loop-rank.self (state_at c.args.tree.now.steps.items c.args.place) n) all (c.loop-rank.invariant.edges first)
