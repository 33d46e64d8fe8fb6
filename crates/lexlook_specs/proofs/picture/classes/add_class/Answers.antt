use Rattle.std.proofs.Common.{◌++◌, ◌==◌, ◌∙◌, ap}
use Rattle.std.specs.Prelude.{slice_index}
use Rattle.lexlook_specs.proofs.Joining.{class_is, three_parts}
use Rattle.std.proofs.lemmas.Result.{on_ok_weaker}
use Rattle.lexlook_specs.proofs.picture.classes.add_class.Goals as goal

pub returns : goal.returns
returns c =
    let set = λ (b : _). slice_index c.args.row.now b == c.args.target in
    let one = c.in_ok-add.ensures ∙ ap (λ l. c.args.text.now.items ++ l) c.opening.ensures in
    on_ok_weaker c.add-2.result (three_parts _ _ _ _ _ _ _ _ one c.in_ok-add_ranges.ensures (class_is set c.is_mostly_full-others.result c.is_mostly_full-others.ensures)) c.add-2.ensures
