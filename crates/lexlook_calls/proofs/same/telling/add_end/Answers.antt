use Rattle.std.proofs.Common.{◌≡◌, ◌++◌, subst}
use Rattle.std.proofs.lemmas.Result.{on_ok_weaker}
use Rattle.lexlook_specs.proofs.Joining.{in_six}
use Rattle.lexlook_calls.specs.Lines.{condition_words}
use Rattle.lexlook_calls.proofs.same.telling.add_end.Goals as goal

pub returns : goal.returns
returns c = λ order. on_ok_weaker c.add-4.result
    (in_six _ _ _ _ _ _ _ _ _ _ _ _ _ c.in_ok-add.ensures (subst (λ g. c.add_condition.new.text.items ≡ c.add.new.text.items ++ condition_words g c.args.condition) c.naming.ensures c.in_ok-add_condition.ensures) c.in_ok-add-2.ensures c.in_ok-add_both.ensures c.in_ok-add-3.ensures)
    c.add-4.ensures
