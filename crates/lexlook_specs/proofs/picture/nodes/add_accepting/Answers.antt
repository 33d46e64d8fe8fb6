use Rattle.std.proofs.lemmas.Result.{on_ok_weaker}
use Rattle.lexlook_specs.proofs.Joining.{in_six}
use Rattle.lexlook_specs.proofs.picture.nodes.add_accepting.Goals as goal

pub returns : goal.returns
returns c = on_ok_weaker c.add-3.result
    (in_six _ _ _ _ _ _ _ _ _ _ _ _ _ c.in_ok-add.ensures c.in_ok-add_number.ensures c.in_ok-add-2.ensures c.in_ok-add_number-2.ensures c.in_ok-add_rules.ensures)
    c.add-3.ensures
