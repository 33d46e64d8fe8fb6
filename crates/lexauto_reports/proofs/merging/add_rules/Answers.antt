use Rattle.std.proofs.Common.{rules, ◌≡◌, ◌<◌, ◌++◌, ◌∷◌, [], ℕ, false, List, length, get_or, map, take, sym, ap, ◌∙◌, append_assoc}
use Rattle.std.proofs.lemmas.List.{map_more}
use Rattle.lexspec.specs.RuleViews.{rule_of}
use Rattle.lexauto_reports.specs.Warned.{of_rule}
use Rattle.lexauto_reports.specs.declared.warned.Warning.{Warning}
use Rattle.lexauto_dfa.proofs.Accepting.{among_get}
use Rattle.lexauto_reports.proofs.Merged.{line_at}
use Rattle.lexauto_reports.proofs.merging.add_rules.Goals as goal

pub bounds-rules-rule : goal.bounds-rules-rule
bounds-rules-rule c =
    let low : c.loop-rule.rule-index < length c.args.useless.now = search rules in
    c.requires.known _ (among_get c.args.useless.now c.loop-rule.rule-index low)

pub bounds-rules-rule-in-loop-rule : goal.bounds-rules-rule-in-loop-rule
bounds-rules-rule-in-loop-rule c =
    let low : c.loop-rule.rule-index < length c.args.useless.now = search rules in
    c.requires.known _ (among_get c.args.useless.now c.loop-rule.rule-index low)

pub loop-rule-preserved : goal.loop-rule-preserved
loop-rule-preserved c =
    let low : c.loop-rule.rule-index < length c.args.useless.now = search rules in
    let us = c.args.useless.now in
    let i = c.loop-rule.rule-index in
    let old = c.args.warnings.now.items in
    let f = of_rule (map rule_of c.args.rules.now) in
    let r = get_or c.args.rules.now (get_or us i 0) c.index-rules-rule.result in
    let known = c.requires.known (get_or us i 0) (among_get us i low) in
    let same : r.line ≡ (f (get_or us i 0)).line = line_at c.args.rules.now (get_or us i 0) c.index-rules-rule.result known in
    let w : Warning = record { line = r.line; code = false } in
    let make : ℕ → Warning = λ l. record { line = l; code = false } in
    let same_w : w ≡ f (get_or us i 0) = ap make same in
    c.in_ok-push.ensures.items ∙ ap (λ (l : List Warning). l ++ w ∷ []) c.loop-rule.invariant ∙ append_assoc old (map f (take i us)) (w ∷ [])
    ∙ ap (λ (l : List Warning). old ++ l) (ap (λ (q : Warning). map f (take i us) ++ q ∷ []) same_w ∙ sym (map_more f us i 0 low))
