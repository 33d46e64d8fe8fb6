use Rattle.std.proofs.Common.{◌≡◌, ℕ, ◌<◌, length, get_or, inl, inr, sym, ◌∙◌, ap, subst, arith}
use Rattle.std.proofs.lemmas.List.{take_all}
use Rattle.lex_semantics.specs.Text.{Among}
use Rattle.lex_semantics.specs.Machine.{Machine}
use Rattle.lexlook_tables.specs.Lines.{Discards}
use Rattle.lexlook_tables.proofs.Searches.{among_at}
use Rattle.lexlook_tables.proofs.Fronts.{among_front}
use Rattle.lexlook_tables.proofs.lines.discarding.discards_at.Goals as goal

pub rule-cut-requires : goal.rule-cut-requires
rule-cut-requires g c =
    let i = get_or c.accepts-rule-items.result.now c.loop-rule.rule-index 0 in
    (g.M.Machine.laws c.args.machine.now).in_range c.args.state i (subst (λ l. Among l i) c.accepts-rule-items.ensures (among_at c.accepts-rule-items.result.now c.loop-rule.rule-index (omega (arith, c.loop-rule-test.true))))

pub returns-then-not-discards-clause-no : goal.returns-then-not-discards-clause-no
returns-then-not-discards-clause-no g c = λ _ all. (let d = all i here in c.discards.ensures.no c.if-not-discards.true (c.rule-cut.ensures.cut ∙ d.0) (c.rule-cut.ensures.statements ∙ d.1))
  where
    M : Machine
    M = g.M.Machine.machine c.args.machine.now

    i : ℕ
    i = get_or c.accepts-rule-items.result.now c.loop-rule.rule-index 0

    here : Among (M.accepts c.args.state) i
    here = subst (λ l. Among l i) c.accepts-rule-items.ensures (among_at c.accepts-rule-items.result.now c.loop-rule.rule-index (omega (arith, c.loop-rule-test.true)))

pub loop-rule-preserved : goal.loop-rule-preserved
loop-rule-preserved g c = λ i at. elim (among_front (M.accepts c.args.state) k i lt at) [
  | inl old ↦ c.loop-rule.invariant i old
  | inr is ↦ (let now = c.discards.ensures.yes c.if-not-discards.false in subst (Discards M) (sym (is ∙ here)) (sym c.rule-cut.ensures.cut ∙ now.0, sym c.rule-cut.ensures.statements ∙ now.1))
]
  where
    M : Machine
    M = g.M.Machine.machine c.args.machine.now

    k : ℕ
    k = c.loop-rule.rule-index

    lt : k < length (M.accepts c.args.state)
    lt = omega (arith, c.loop-rule-test.true, ap length c.accepts-rule-items.ensures)

    here : get_or (M.accepts c.args.state) k 0 ≡ get_or c.accepts-rule-items.result.now k 0
    here = ap (λ l. get_or l k 0) (sym c.accepts-rule-items.ensures)

pub returns-clause-yes : goal.returns-clause-yes
returns-clause-yes g c = λ _ i at. c.loop-rule.invariant i (subst (λ l. Among l i) (sym (take_all c.loop-rule.rule-index (M.accepts c.args.state) (omega (arith, c.loop-rule-test.false, ap length c.accepts-rule-items.ensures)))) at)
  where
    M : Machine
    M = g.M.Machine.machine c.args.machine.now
