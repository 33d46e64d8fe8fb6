use Rattle.std.proofs.Common.{◌≡◌, ◌∙◌, ◌++◌, ap, map}
use Rattle.std.proofs.lemmas.Result.{on_ok_weaker}
use Rattle.lexspec.specs.Views.{spec_of}
use Rattle.lexspec_lines.specs.Lines.{without_returns}
use Rattle.lexlook_text.specs.LineViews.{line_of}
use Rattle.lexlook_check.specs.Differences.{differences, differences_in}
use Rattle.lexlook_check.specs.Findings.{known_lines}
use Rattle.lexlook_check.proofs.DifferenceLaws.{differing}
use Rattle.lexlook_check.proofs.differences.add_differences.Goals as goal

pub returns : goal.returns
returns c =
    let spec = spec_of c.args.spec.now in
    let faultless = c.args.faultless in
    let old = c.args.notices.now.items in
    let next = c.add_differences_in.new.notices.items in
    let text : c.as_slice.result.now ≡ without_returns c.args.text.now = c.as_slice.ensures.value ∙ c.in_ok-kept.ensures in
    let lines : map line_of c.as_slice-2.result.now ≡ known_lines (without_returns c.args.text.now) =
    ap (map line_of) c.as_slice-2.ensures.value ∙ c.in_ok-lines.ensures ∙ ap known_lines text in
    let step : next ≡ old ++ differences_in faultless spec (map line_of c.as_slice-2.result.now) → next ≡ old ++ differences faultless spec c.args.text.now =
    differing faultless spec c.args.text.now old next (map line_of c.as_slice-2.result.now) lines in
    on_ok_weaker c.add_differences_in.result step c.add_differences_in.ensures
