use Rattle.std.proofs.Common.{arith}
use Rattle.std.specs.Prelude.{slice_index}
use Rattle.lexlook_specs.specs.Pictures.{edge_at}
use Rattle.lexlook_specs.proofs.Joining.{more_in_range, edges_are}
use Rattle.lexlook_specs.proofs.picture.edges.add_edges.Goals as goal

pub loop-byte-preserved : goal.loop-byte-preserved
loop-byte-preserved c = (
  more_in_range (edge_at c.args.state (slice_index c.args.row.now)) _ _ _ c.loop-byte.byte c.loop-byte.invariant.0 c.in_ok-add_edge_at.ensures.text,
  c.in_ok-add_edge_at.ensures.told,
  c.in_ok-add_edge_at.ensures.at_most c.loop-byte.invariant.2,
)

pub returns-clause-text : goal.returns-clause-text
returns-clause-text c = edges_are c.args.state (slice_index c.args.row.now) _ _ c.loop-byte.byte (omega arith) c.loop-byte.invariant.0
