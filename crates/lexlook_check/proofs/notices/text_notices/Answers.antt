use Rattle.std.proofs.Common.{◌≡◌, ◌∙◌, ℕ, List, true, false, ◌++◌, ap, flat_map, map, sym, take}
use Rattle.std.proofs.lemmas.List.{take-map}
use Rattle.lexlook_text.specs.DefinitionLines.{definition_lines, lines_from, section_lines}
use Rattle.lexlook_text.specs.LineViews.{line_of}
use Rattle.lexlook_check.specs.BarTrails.{bar_trails}
use Rattle.lexlook_check.specs.EndRules.{end_notices}
use Rattle.lexlook_check.specs.Notices.{definition_notices, rule_notices}
use Rattle.lexlook_check.specs.Unused.{max_looked_for, unused_notices}
use Rattle.lexlook_text.specs.declared.definitions.LineKind.TheVariants.{Definition}
use Rattle.lexlook_check.specs.declared.notices.Notice.{Notice}
use Rattle.lexlook_check.proofs.notices.text_notices.Goals as goal

pub returns : goal.returns
returns c =
    let text : List ℕ = c.args.text.now in
    let rules : List ℕ = c.args.rules.now in
    let first : List Notice = flat_map definition_notices (definition_lines text) in
    let lines : map line_of c.as_slice.result.now ≡ lines_from 1 true text = ap (map line_of) c.as_slice.ensures.value ∙ c.in_ok-lines.ensures in
    let again : map line_of c.as_slice-3.result.now ≡ lines_from 1 true text = ap (map line_of) c.as_slice-3.ensures.value ∙ c.in_ok-lines.ensures in
    let third : map line_of c.as_slice-4.result.now ≡ lines_from 1 true text = ap (map line_of) c.as_slice-4.ensures.value ∙ c.in_ok-lines.ensures in
    let fourth : map line_of c.as_slice-5.result.now ≡ lines_from 1 true text = ap (map line_of) c.as_slice-5.ensures.value ∙ c.in_ok-lines.ensures in
    let defined : map line_of c.in_ok-definitions.definitions.items ≡ definition_lines text = c.in_ok-definitions.ensures ∙ ap (section_lines Definition) lines in
    let all : map line_of c.as_slice-2.result.now ≡ definition_lines text = ap (map line_of) c.as_slice-2.ensures.value ∙ defined in
    let few : map line_of c.as_slice-6.result.now ≡ take max_looked_for (definition_lines text) =
    ap (map line_of) (c.as_slice-6.ensures.value ∙ c.truncate.ensures.items) ∙ sym (take-map line_of max_looked_for c.in_ok-definitions.definitions.items)
    ∙ ap (take max_looked_for) defined in
    let one : c.add_all_definition_notices.new.notices.items ≡ first =
    c.in_ok-add_all_definition_notices.ensures ∙ ap (λ (z : List Notice). z ++ flat_map definition_notices (map line_of c.as_slice-2.result.now)) c.new-notices.ensures.items
    ∙ ap (flat_map definition_notices) all in
    let two : c.add_all_rule_notices.new.notices.items ≡ first ++ flat_map (rule_notices (lines_from 1 true text)) rules =
    c.in_ok-add_all_rule_notices.ensures ∙ ap (λ (z : List Notice). z ++ flat_map (rule_notices (map line_of c.as_slice-3.result.now)) rules) one
    ∙ ap (λ z. first ++ flat_map (rule_notices z) rules) again in
    let three : c.add_bar_trails.new.notices.items ≡ first ++ flat_map (rule_notices (lines_from 1 true text)) rules ++ bar_trails (lines_from 1 true text) false rules =
    c.in_ok-add_bar_trails.ensures ∙ ap (λ (z : List Notice). z ++ bar_trails (map line_of c.as_slice-4.result.now) false rules) two
    ∙ ap (λ z. first ++ flat_map (rule_notices (lines_from 1 true text)) rules ++ bar_trails z false rules) third in
    let four : c.add_ends.new.notices.items
    ≡ first ++ flat_map (rule_notices (lines_from 1 true text)) rules ++ bar_trails (lines_from 1 true text) false rules ++ flat_map end_notices (lines_from 1 true text) =
    c.in_ok-add_ends.ensures ∙ ap (λ (z : List Notice). z ++ flat_map end_notices (map line_of c.as_slice-5.result.now)) three
    ∙ ap (λ z. first ++ flat_map (rule_notices (lines_from 1 true text)) rules ++ bar_trails (lines_from 1 true text) false rules ++ flat_map end_notices z) fourth in
    c.in_ok-add_unused.ensures ∙ ap (λ (z : List Notice). z ++ flat_map (unused_notices c.args.own c.args.whole.now) (map line_of c.as_slice-6.result.now)) four
    ∙ ap (λ z. first ++ flat_map (rule_notices (lines_from 1 true text)) rules ++ bar_trails (lines_from 1 true text) false rules ++ flat_map end_notices (lines_from 1 true text) ++ flat_map (unused_notices c.args.own c.args.whole.now) z) few
