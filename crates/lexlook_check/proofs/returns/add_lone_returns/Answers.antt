use Rattle.std.proofs.Common.{◌≡◌, ◌∙◌, ◌++◌, ℕ, List, true, ap, flat_map, map}
use Rattle.std.proofs.lemmas.Result.{on_ok_weaker}
use Rattle.lexlook_text.specs.DefinitionLines.{lines_from}
use Rattle.lexlook_text.specs.LineViews.{line_of}
use Rattle.lexlook_check.specs.Returns.{return_notices}
use Rattle.lexlook_check.proofs.returns.add_lone_returns.Goals as goal

pub returns : goal.returns
returns c =
    let lines : map line_of c.as_slice.result.now ≡ lines_from 1 true c.args.text.now = ap (map line_of) c.as_slice.ensures.value ∙ c.in_ok-lines.ensures in
    on_ok_weaker c.add_returns.result (λ h. h ∙ ap (λ (ls : List (ℕ × List ℕ)). c.args.notices.now.items ++ flat_map return_notices ls) lines) c.add_returns.ensures
