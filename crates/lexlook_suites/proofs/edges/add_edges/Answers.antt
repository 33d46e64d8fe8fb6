use Rattle.std.proofs.Common.{arith}
use Rattle.lexlook_suites.specs.Edges.{marked_edge}
use Rattle.lexlook_suites.proofs.Edged.{bytes_all, parts_more}
use Rattle.lexlook_suites.proofs.edges.add_edges.Goals as goal

pub loop-byte-preserved : goal.loop-byte-preserved
loop-byte-preserved c =
    parts_more (marked_edge c.args.dfa.now.parts c.args.marks.now c.args.rules c.args.state) 0 c.loop-byte.byte c.args.edges.now.items c.loop-byte.edges.items _ (omega arith) c.loop-byte.invariant c.in_ok-add_edge_at.ensures

pub returns : goal.returns
returns c =
    let end = c.loop-byte-test.false in
    let most = c.loop-byte.auto.byte-end in
    bytes_all (marked_edge c.args.dfa.now.parts c.args.marks.now c.args.rules c.args.state) c.args.edges.now.items _ c.loop-byte.byte (omega (arith, end, most)) c.loop-byte.invariant
