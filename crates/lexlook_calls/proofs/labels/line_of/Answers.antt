use Rattle.std.proofs.Common.{◌<◌, ◌∙◌, List, length, map, ap, sym, arith}
use Rattle.std.specs.Prelude.{slice_index}
use Rattle.std.proofs.lemmas.List.{get_or-map, length-map}
use Rattle.lex_semantics.specs.Spec.{Rule}
use Rattle.lexspec.specs.RuleViews.{rule_of}
use Rattle.lexspec.specs.declared.rule.Rule.{Rule as Made}
use Rattle.lexkit.specs.Generated.{lines_of}
use Rattle.lexlook_calls.proofs.labels.line_of.Goals as goal

pub returns : goal.returns
returns c = sym (ap (λ l. slice_index (lines_of l) c.args.rule) (sym c.rules.ensures.rules) ∙ get_or-map (λ (r : Rule). r.line) (map rule_of xs) c.args.rule (rule_of d) 0 long ∙ ap (λ (r : Rule). r.line) (get_or-map rule_of xs c.args.rule d (rule_of d) within))
  where
    xs : List Made
    xs = c.rules.result.now

    d : Made
    d = c.index-rules-rule.result

    long : c.args.rule < length (map rule_of xs)
    long = omega (arith, c.requires, ap length c.rules.ensures.rules)

    within : c.args.rule < length xs
    within = omega (arith, long, length-map xs rule_of)
