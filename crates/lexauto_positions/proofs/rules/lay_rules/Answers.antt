use Rattle.std.proofs.lemmas.Grind.{common_steps}
use Rattle.std.proofs.Common.{rules, ◌≡◌, ◌+◌, ◌++◌, ◌∷◌, [], List, map, drop, sym, subst, arith}
use Rattle.lex_semantics.specs.Spec.{Rule}
use Rattle.lexspec.specs.RuleViews.{rule_of}
use Rattle.lexauto_positions.specs.Laid.{shape_of, AlikeRules, HaveSized}
use Rattle.lexauto_positions.specs.declared.rules.LaidRule.{LaidRule}
use Rattle.lexauto_positions.proofs.AlikeLaws.{drop_one}
use Rattle.lexauto_positions.proofs.LaidLaws.{rule_alike, rules_more, have_sized_more}
use Rattle.lexauto_positions.proofs.rules.lay_rules.Goals as goal

pub loop-rule-preserved : goal.loop-rule-preserved
loop-rule-preserved c =
    let laid = c.loop-rule.laid.items in
    let rule = c.in_ok-rule.rule in
    let i = c.loop-rule.rule-index in
    let all = map rule_of c.args.rules.now in
    let rest = drop_one rule_of c.args.rules.now i c.rule-item.result c.loop-rule-test.true c.rule-item.is in
    let items : c.push.new.self.items ≡ laid ++ rule ∷ [] = c.in_ok-push.ensures.items in
    record {
      sound = search rules;
      few = search rules;
      sized = subst HaveSized (sym items) (have_sized_more laid rule c.loop-rule.invariant.sized c.in_ok-rule.ensures.sized);
      alike = subst (λ (ls : List LaidRule). AlikeRules (map shape_of ls ++ map rule_of (drop (i + 1) c.args.rules.now)) all) (sym items)
          (rules_more laid rule (rule_of c.rule-item.result) (map rule_of (drop (i + 1) c.args.rules.now)) all
          (rule_alike (shape_of rule) (rule_of c.rule-item.result) c.in_ok-rule.ensures.head c.in_ok-rule.ensures.trail)
          (subst (λ (rs : List Rule). AlikeRules (map shape_of laid ++ rs) all) rest c.loop-rule.invariant.alike));
    }

pub lay_rule-requires-clause-few : goal.lay_rule-requires-clause-few
lay_rule-requires-clause-few = grind (arith, common_steps)

pub lay_rule-requires-clause-sound : goal.lay_rule-requires-clause-sound
lay_rule-requires-clause-sound = grind (arith, common_steps)

pub loop-rule-init : goal.loop-rule-init
loop-rule-init = grind (arith, common_steps)

pub returns-clause-alike : goal.returns-clause-alike
returns-clause-alike = grind (arith, common_steps)
