use Rattle.std.proofs.Common.{◌≡◌, ℕ, ◌+◌, ◌∷◌, [], ◌++◌, ◌∙◌, map, drop, List, rules, sym, subst, ap, append_assoc}
use Rattle.std.proofs.lemmas.List.{map_push}
use Rattle.lex_semantics.specs.Spec as S
use Rattle.lex_machine.specs.Views.{statement_of, cut_of}
use Rattle.lexspec.specs.RuleViews.{rule_of as rule_in}
use Rattle.lextab_packed.specs.Table as T
use Rattle.lextab_packed.specs.Checks.{Each, HasText}
use Rattle.lextab_packed.specs.Views.{table_rule_of}
use Rattle.lextab_packed.specs.declared.parts.TableRule.{TableRule}
use Rattle.lextab.specs.Assembled.{action_in}
use Rattle.lex_machine.proofs.Growing.{each_push}
use Rattle.lextab.proofs.Pushes.{next_rule}
use Rattle.lextab.proofs.assembling.table_rules.Goals as goal

pub loop-i-preserved : goal.loop-i-preserved
loop-i-preserved c =
    let i = c.loop-i.i in
    let old = c.loop-i.all.items in
    let done : List T.RuleOfTable = map table_rule_of old in
    let rule = c.index-rules-i.result in
    let one : TableRule = record { cut = rule.cut; statements = c.in_ok-statements.statements } in
    let rest : List T.RuleOfTable = map action_in (map rule_in (drop (i + 1) c.args.rules.now)) in
    let same : map statement_of c.in_ok-statements.statements.items ≡ map statement_of rule.statements.items = search rules in
    let views : map table_rule_of c.push.new.self.items ≡ done ++ table_rule_of one ∷ [] = ap (λ (xs : List TableRule). map table_rule_of xs) c.in_ok-push.ensures.items ∙ map_push table_rule_of old one in (
      ap (λ (l : List T.RuleOfTable). l ++ rest) views
          ∙ append_assoc done (table_rule_of one ∷ []) rest
          ∙ ap (λ (ss : List S.Statement). done ++ (record { cut = cut_of rule.cut; statements = ss } ∷ rest)) same
          ∙ ap (λ (l : List S.Rule). done ++ map action_in l) (sym (next_rule c.args.rules.now i rule c.loop-i-test.true c.index-rules-i.is))
          ∙ c.loop-i.invariant.0,
      subst (λ (l : List T.RuleOfTable). Each (λ (n : ℕ) (x : T.RuleOfTable). Each HasText 0 x.statements) 0 l) (sym views) (each_push (λ (n : ℕ) (x : T.RuleOfTable). Each HasText 0 x.statements) done (table_rule_of one) c.loop-i.invariant.1 (λ n. c.in_ok-statements.ensures.text)),
    )
