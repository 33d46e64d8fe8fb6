use Rattle.std.proofs.Common.{◌≡◌, ℕ, ◌<◌, true, false, List, [], length, get_or, inl, inr, sym, ◌∙◌, ap, subst, arith}
use Rattle.lex_semantics.specs.Text.{Among}
use Rattle.lex_semantics.specs.Spec.{Whole, has_reject}
use Rattle.lex_semantics.specs.Machine.{Machine}
use Rattle.lexlook_tables.specs.Lines.{after_line}
use Rattle.lexlook_tables.proofs.Searches.{among_at}
use Rattle.lexlook_tables.proofs.Fronts.{among_front}
use Rattle.lexlook_tables.proofs.lines.newlines.takes_line.Goals as goal
use Rattle.lexlook_tables.proofs.lines.newlines.takes_line.Goals.{else-is_whole-via-then-is_whole+else-not-has_reject, else-is_whole-via-else-is_whole}

pub rule-cut-requires : goal.rule-cut-requires
rule-cut-requires g c =
    let i = get_or c.accepts-rule-items.result.now c.loop-rule.rule-index 0 in
    (g.M.Machine.laws c.args.machine.now).in_range c.step-state.result i (subst (λ l. Among l i) c.accepts-rule-items.ensures (among_at c.accepts-rule-items.result.now c.loop-rule.rule-index (omega (arith, c.loop-rule-test.true))))

pub returns-then-not-has_reject-clause-yes : goal.returns-then-not-has_reject-clause-yes
returns-then-not-has_reject-clause-yes g c = λ _. record {
  rule = i;
  accepted = subst (λ l. Among l i) (c.accepts-rule-items.ensures ∙ ap M.accepts (c.step-state.ensures.state ∙ ap (λ s. M.next s 10) c.start.ensures.state)) (among_at c.accepts-rule-items.result.now c.loop-rule.rule-index (omega (arith, c.loop-rule-test.true)));
  whole = sym c.rule-cut.ensures.cut ∙ c.is_whole.ensures.yes c.if-is_whole.true;
  stays = sym (c.has_reject.ensures ∙ ap has_reject c.rule-cut.ensures.statements) ∙ c.if-not-has_reject.true;
}
  where
    M : Machine
    M = g.M.Machine.machine c.args.machine.now

    i : ℕ
    i = get_or c.accepts-rule-items.result.now c.loop-rule.rule-index 0

pub loop-rule-preserved : goal.loop-rule-preserved
loop-rule-preserved g c = λ i at whole stays. elim (among_front (M.accepts (after_line M c.args.condition c.args.line_start [])) k i lt at) [
  | inl old ↦ c.loop-rule.invariant i old whole stays
  | inr is ↦ now (subst (λ z. M.cut z ≡ Whole) (is ∙ here) whole) (subst (λ z. has_reject (M.statements z) ≡ false) (is ∙ here) stays)
]
  where
    M : Machine
    M = g.M.Machine.machine c.args.machine.now

    k : ℕ
    k = c.loop-rule.rule-index

    rules : List ℕ
    rules = c.accepts-rule-items.result.now

    same : rules ≡ M.accepts (after_line M c.args.condition c.args.line_start [])
    same = c.accepts-rule-items.ensures ∙ ap M.accepts (c.step-state.ensures.state ∙ ap (λ s. M.next s 10) c.start.ensures.state)

    lt : k < length (M.accepts (after_line M c.args.condition c.args.line_start []))
    lt = omega (arith, c.loop-rule-test.true, ap length same)

    here : get_or (M.accepts (after_line M c.args.condition c.args.line_start [])) k 0 ≡ get_or rules k 0
    here = ap (λ l. get_or l k 0) (sym same)

    differ : true ≡ false → ⊥
    differ e = cc

    now : M.cut (get_or rules k 0) ≡ Whole → has_reject (M.statements (get_or rules k 0)) ≡ false → ⊥
    now whole stays = elim c.else-is_whole.branch [
      | else-is_whole-via-then-is_whole+else-not-has_reject w ↦ differ (sym w.if-not-has_reject.false ∙ w.has_reject.ensures ∙ ap has_reject c.rule-cut.ensures.statements ∙ stays)
      | else-is_whole-via-else-is_whole w ↦ c.is_whole.ensures.no w.if-is_whole.false (c.rule-cut.ensures.cut ∙ whole)
    ]
