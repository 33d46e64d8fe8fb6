use Rattle.std.proofs.Common.{◌≡◌, ◌∙◌, ◌<◌, ◌++◌, ℕ, Option, ap, arith, length}
use Rattle.std.specs.Prelude.{slice_index}
use Rattle.std.proofs.lemmas.List.{get_or_default}
use Rattle.lexlook_specs.proofs.Joining.{more_in_range}
use Rattle.lexlook_counts.specs.CountLines.{count_at, kind_line}
use Rattle.lexlook_counts.specs.GivenUp.{given_where}
use Rattle.lexlook_counts.specs.declared.lines.Subject.TheVariants.{Line}
use Rattle.lexlook_counts.specs.declared.tally.RuleCount.{RuleCount}
use Rattle.lexlook_counts.proofs.lines.add_numbered.Goals as goal

pub loop-rule-preserved : goal.loop-rule-preserved
loop-rule-preserved c =
    let i = c.loop-rule.rule in
    let rules = c.args.counted.now.tally.rules.items in
    let given = c.args.counted.now.given_up.items in
    let text = c.loop-rule.text.items in
    let subject = Line (slice_index c.args.lines.now i) in
    let in_rules : i < length rules = omega (arith, c.loop-rule-test.true, c.requires.rules) in
    let in_given : i < length given = omega (arith, c.loop-rule-test.true, c.requires.given_up) in
    let rule_is : c.index-in-loop-rule.result.now ≡ count_at rules i = c.index-in-loop-rule.ensures ∙ get_or_default rules i c.index-in-loop-rule.result.now (record { matches = 0; bytes = 0; longest = 0; beyond = 0 }) in_rules in
    let given_is : c.given_where-given_up.result ≡ given_where c.args.rejecting (slice_index given i) =
    c.given_where-given_up.ensures ∙ ap (given_where c.args.rejecting) (c.index.ensures ∙ get_or_default given i c.index.result.now 0 in_given) in
    more_in_range (λ j. kind_line c.args.kind (Line (slice_index c.args.lines.now j)) (count_at rules j) (given_where c.args.rejecting (slice_index given j))) _ _ _ i c.loop-rule.invariant
    (c.in_ok-add_line.ensures
    ∙ ap (λ (k : RuleCount). text ++ kind_line c.args.kind subject k c.given_where-given_up.result) rule_is
    ∙ ap (λ (o : Option ℕ). text ++ kind_line c.args.kind subject (count_at rules i) o) given_is)
