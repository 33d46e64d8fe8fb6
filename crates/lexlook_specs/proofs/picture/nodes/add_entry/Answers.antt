use Rattle.std.proofs.lemmas.Result.{on_ok_weaker}
use Rattle.lexlook_specs.proofs.Joining.{in_three}
use Rattle.lexlook_specs.proofs.picture.nodes.add_entry.Goals as goal

pub returns : goal.returns
returns c = on_ok_weaker c.add_arrow.result (in_three _ _ _ _ _ _ _ c.in_ok-add_node.ensures c.in_ok-add.ensures) c.add_arrow.ensures
