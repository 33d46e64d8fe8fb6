use Rattle.std.proofs.Common.{sym, subst, ◌∙◌, arith}
use Rattle.std.proofs.lemmas.List.{take_rest}
use Rattle.lex_semantics.specs.Text.{Among}
use Rattle.lex_semantics.specs.Machine.{Machine}
use Rattle.lexlook_tables.specs.Searching.{DoAlike}
use Rattle.lexlook_tables.proofs.Asked.{among_later, accepted, accepted_at, alike_next, alike_last}
use Rattle.lexlook_tables.proofs.same.deeds.agree.Goals as goal
use Rattle.lexlook_tables.proofs.same.deeds.agree.Goals.{then-places-test+else-at-others, else-places-test}

pub do_same-requires-clause-rule : goal.do_same-requires-clause-rule
do_same-requires-clause-rule g c = accepted_at (g.A.Machine.machine c.args.left.now) (g.A.Machine.laws c.args.left.now) c.args.state c.accepts-rules.result.now c.accepts-rules.ensures c.places.at (omega (arith, c.places-test.true))

pub do_same-requires-clause-other : goal.do_same-requires-clause-other
do_same-requires-clause-other g c = accepted_at (g.B.Machine.machine c.args.right.now) (g.B.Machine.laws c.args.right.now) c.args.other c.accepts-others.result.now c.accepts-others.ensures c.places.at (omega (arith, c.if-at-others.true))

pub may_yield-requires : goal.may_yield-requires
may_yield-requires g c = accepted_at (g.A.Machine.machine c.args.left.now) (g.A.Machine.laws c.args.left.now) c.args.state c.accepts-rules.result.now c.accepts-rules.ensures c.places.at (omega (arith, c.places-test.true))

pub returns-then-not-may_yield-clause-yes : goal.returns-then-not-may_yield-clause-yes
returns-then-not-may_yield-clause-yes g c = λ _. subst (λ l. DoAlike c.args.order.now c.args.single M N l (N.accepts c.args.other)) c.accepts-rules.ensures
    (subst (DoAlike c.args.order.now c.args.single M N c.accepts-rules.result.now) c.accepts-others.ensures
    (alike_last c.args.order.now M N c.args.single c.accepts-rules.result.now c.accepts-others.result.now c.places.at (omega (arith, c.places-test.true)) (omega (arith, c.if-at-others.true)) c.places.invariant.alike
    (c.do_same.ensures.yes c.if-not-do_same.false) (sym c.may_yield.ensures ∙ c.if-not-may_yield.true)))
  where
    M : Machine
    M = g.A.Machine.machine c.args.left.now

    N : Machine
    N = g.B.Machine.machine c.args.right.now

pub places-preserved : goal.places-preserved
places-preserved g c = record {
  within = omega (arith, c.places-test.true);
  inside = omega (arith, c.if-at-others.true);
  alike = alike_next c.args.order.now (g.A.Machine.machine c.args.left.now) (g.B.Machine.machine c.args.right.now) c.args.single c.accepts-rules.result.now c.accepts-others.result.now c.places.at (omega (arith, c.places-test.true)) (omega (arith, c.if-at-others.true))
      c.places.invariant.alike (c.do_same.ensures.yes c.if-not-do_same.false) (sym c.may_yield.ensures ∙ c.if-not-may_yield.false);
}

pub rest_agrees-requires-clause-rules : goal.rest_agrees-requires-clause-rules
rest_agrees-requires-clause-rules g c = λ i a. accepted (g.A.Machine.machine c.args.left.now) (g.A.Machine.laws c.args.left.now) c.args.state c.accepts-rules.result.now c.accepts-rules.ensures i
    (among_later c.accepts-rules.result.now c.places.at i (subst (λ l. Among l i) (take_rest c.accepts-rules.result.now c.places.at) a))

pub rest_agrees-requires-clause-others : goal.rest_agrees-requires-clause-others
rest_agrees-requires-clause-others g c = λ i a. accepted (g.B.Machine.machine c.args.right.now) (g.B.Machine.laws c.args.right.now) c.args.other c.accepts-others.result.now c.accepts-others.ensures i
    (among_later c.accepts-others.result.now c.places.at i (subst (λ l. Among l i) (take_rest c.accepts-others.result.now c.places.at) a))
