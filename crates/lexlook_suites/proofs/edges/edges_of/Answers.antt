use Rattle.std.proofs.Common.{[]}
use Rattle.lexlook_suites.specs.Edges.{edges_from}
use Rattle.lexlook_suites.proofs.Edged.{parts_more}
use Rattle.lexlook_suites.proofs.edges.edges_of.Goals as goal

pub loop-state-preserved : goal.loop-state-preserved
loop-state-preserved c =
    parts_more (edges_from c.args.dfa.now.parts c.args.marks.now c.args.rules) 1 c.loop-state.state [] c.loop-state.edges.items _ c.loop-state.auto.state c.loop-state.invariant c.in_ok-add_edges.ensures
