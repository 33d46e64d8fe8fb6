use Rattle.std.proofs.Common.{◌∙◌, ◌++◌, Option, ap, sym}
use Rattle.std.proofs.lemmas.Result.{on_ok_weaker}
use Rattle.lexlook_check.specs.Weights.{weight_words}
use Rattle.lexlook_check.specs.declared.weights.Weights.{Weights}
use Rattle.lexlook_check.proofs.Parts.{six}
use Rattle.lexlook_check.proofs.weights.add_weights.Goals as goal

pub returns-in_ok-add_count-in-Some : goal.returns-in_ok-add_count-in-Some
returns-in_ok-add_count-in-Some c =
    on_ok_weaker c.add-in-Some-3.result
    (λ h. six _ _ _ _ _ _ _ _ _ _ _ _ _ c.in_ok-add_number-in-Some.ensures c.in_ok-add-in-Some.ensures c.in_ok-add_heaviest-in-Some.ensures c.in_ok-add-in-Some-2.ensures c.in_ok-add_count-in-Some.ensures h
    ∙ ap (λ (w : Option Weights). c.args.text.now.items ++ weight_words c.args.files.now w) (sym c.in-Some.is)) c.add-in-Some-3.ensures
