use Rattle.std.proofs.Common.{◌≡◌, ◌∙◌, ◌++◌, ap, flat_map, map}
use Rattle.std.proofs.lemmas.Result.{on_ok_weaker}
use Rattle.lexspec.specs.Views.{spec_of}
use Rattle.lexspec_lines.specs.Lines.{without_returns}
use Rattle.lexlook_text.specs.DeclaredNames.{declared_conditions, declared_name_of}
use Rattle.lexlook_text.specs.LineViews.{line_of}
use Rattle.lexlook_check.specs.Conditions.{condition_notices, declared_notices}
use Rattle.lexlook_check.specs.Findings.{known_lines}
use Rattle.lexlook_check.proofs.ConditionLaws.{placed}
use Rattle.lexlook_check.proofs.conditions.add_known.Goals as goal

pub returns : goal.returns
returns c =
    let spec = spec_of c.args.spec.now in
    let copied = c.args.copied.now in
    let old = c.args.notices.now.items in
    let next = c.add_all_declared.new.notices.items in
    let text : c.as_slice.result.now ≡ without_returns c.args.text.now = c.as_slice.ensures.value ∙ c.in_ok-whole.ensures in
    let lines : map line_of c.as_slice-2.result.now ≡ known_lines (without_returns c.args.text.now) =
    ap (map line_of) c.as_slice-2.ensures.value ∙ c.in_ok-lines.ensures ∙ ap known_lines text in
    let places : map declared_name_of c.as_slice-3.result.now ≡ declared_conditions (map line_of c.as_slice-2.result.now) =
    ap (map declared_name_of) c.as_slice-3.ensures.value ∙ c.in_ok-places.ensures in
    let step : next ≡ old ++ flat_map (declared_notices spec copied) (map declared_name_of c.as_slice-3.result.now) → next ≡ old ++ condition_notices spec copied c.args.text.now =
    placed spec copied c.args.text.now old next (map line_of c.as_slice-2.result.now) (map declared_name_of c.as_slice-3.result.now) lines places in
    on_ok_weaker c.add_all_declared.result step c.add_all_declared.ensures
