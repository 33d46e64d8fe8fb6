use Rattle.std.proofs.Common.{◌≡◌, ℕ, ◌<◌, true, false, List, length, get_or, inl, inr, sym, ◌∙◌, ap, subst, arith}
use Rattle.std.proofs.lemmas.List.{take_all}
use Rattle.lex_semantics.specs.Text.{Among}
use Rattle.lex_semantics.specs.Machine.{Machine}
use Rattle.lexlook_tables.specs.Lines.{may_keep_last, leaves_line}
use Rattle.lexlook_tables.proofs.Searches.{among_at}
use Rattle.lexlook_tables.proofs.Fronts.{among_front}
use Rattle.lexlook_tables.proofs.Standing.{straying_some, straying_none}
use Rattle.lexlook_tables.proofs.lines.newlines.straying_rule.Goals as goal
use Rattle.lexlook_tables.proofs.lines.newlines.straying_rule.Goals.{else-may_keep_last-via-then-may_keep_last+else-not-ends_line, else-may_keep_last-via-else-may_keep_last}

pub rule-cut-requires : goal.rule-cut-requires
rule-cut-requires g c =
    let i = get_or c.accepts-rule-items.result.now c.loop-rule.rule-index 0 in
    (g.M.Machine.laws c.args.machine.now).in_range c.args.state i (subst (λ l. Among l i) c.accepts-rule-items.ensures (among_at c.accepts-rule-items.result.now c.loop-rule.rule-index (omega (arith, c.loop-rule-test.true))))

pub returns-then-not-ends_line : goal.returns-then-not-ends_line
returns-then-not-ends_line g c = straying_some M c.args.condition c.args.state rule ((g.M.Machine.laws c.args.machine.now).ascending c.args.state) c.loop-rule.rule-index lt here
    (sym (c.may_keep_last.ensures ∙ ap may_keep_last c.rule-cut.ensures.cut) ∙ c.if-may_keep_last.true) (sym (c.ends_line.ensures ∙ ap (leaves_line c.args.condition) c.rule-cut.ensures.statements) ∙ c.if-not-ends_line.true) c.loop-rule.invariant
  where
    M : Machine
    M = g.M.Machine.machine c.args.machine.now

    rule : ℕ
    rule = get_or c.accepts-rule-items.result.now c.loop-rule.rule-index 0

    lt : c.loop-rule.rule-index < length (M.accepts c.args.state)
    lt = omega (arith, c.loop-rule-test.true, ap length c.accepts-rule-items.ensures)

    here : get_or (M.accepts c.args.state) c.loop-rule.rule-index 0 ≡ rule
    here = ap (λ l. get_or l c.loop-rule.rule-index 0) (sym c.accepts-rule-items.ensures)

pub returns : goal.returns
returns g c = straying_none M c.args.condition c.args.state (λ i at. c.loop-rule.invariant i (subst (λ l. Among l i) (sym (take_all c.loop-rule.rule-index (M.accepts c.args.state) (omega (arith, c.loop-rule-test.false, ap length c.accepts-rule-items.ensures)))) at))
  where
    M : Machine
    M = g.M.Machine.machine c.args.machine.now

pub loop-rule-preserved : goal.loop-rule-preserved
loop-rule-preserved g c = λ i at keeps. elim (among_front (M.accepts c.args.state) k i lt at) [
  | inl old ↦ c.loop-rule.invariant i old keeps
  | inr is ↦ subst (λ z. leaves_line c.args.condition (M.statements z) ≡ true) (sym (is ∙ here)) (now (subst (λ z. may_keep_last (M.cut z) ≡ true) (is ∙ here) keeps))
]
  where
    M : Machine
    M = g.M.Machine.machine c.args.machine.now

    k : ℕ
    k = c.loop-rule.rule-index

    rules : List ℕ
    rules = c.accepts-rule-items.result.now

    lt : k < length (M.accepts c.args.state)
    lt = omega (arith, c.loop-rule-test.true, ap length c.accepts-rule-items.ensures)

    here : get_or (M.accepts c.args.state) k 0 ≡ get_or rules k 0
    here = ap (λ l. get_or l k 0) (sym c.accepts-rule-items.ensures)

    differ : true ≡ false → ⊥
    differ e = cc

    now : may_keep_last (M.cut (get_or rules k 0)) ≡ true → leaves_line c.args.condition (M.statements (get_or rules k 0)) ≡ true
    now keeps = elim c.else-may_keep_last.branch [
      | else-may_keep_last-via-then-may_keep_last+else-not-ends_line w ↦ sym (w.ends_line.ensures ∙ ap (leaves_line c.args.condition) c.rule-cut.ensures.statements) ∙ w.if-not-ends_line.false
      | else-may_keep_last-via-else-may_keep_last w ↦ absurd (differ (sym keeps ∙ sym (c.may_keep_last.ensures ∙ ap may_keep_last c.rule-cut.ensures.cut) ∙ w.if-may_keep_last.false))
    ]
