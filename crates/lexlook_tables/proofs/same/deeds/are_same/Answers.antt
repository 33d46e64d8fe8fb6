use Rattle.std.proofs.Common.{ℕ, List, map, sym, ap, ◌∙◌, arith}
use Rattle.std.proofs.lemmas.List.{take_all, length-map}
use Rattle.lex_semantics.specs.Spec.{Statement}
use Rattle.lex_machine.specs.Views.{statement_of}
use Rattle.lex_machine.specs.declared.action.Statement.{Statement as Made}
use Rattle.lexlook_tables.specs.Same.{renumbered}
use Rattle.lexlook_tables.proofs.Numbering.{one_by_one}
use Rattle.lexlook_tables.proofs.Lists.{one_more, same_at}
use Rattle.lexlook_tables.proofs.same.deeds.are_same.Goals as goal

abbrev there : List ℕ → Made → Statement
there order s = renumbered order (statement_of s)

pub returns-then-not-is_same-clause-no : goal.returns-then-not-is_same-clause-no
returns-then-not-is_same-clause-no c = λ no same. c.is_same.ensures.no c.if-not-is_same.true
    (ap (there c.args.order.now) c.index-statements-at.is ∙ same_at (there c.args.order.now) statement_of c.args.statements.now c.args.others.now c.places.at _ _ (omega (arith, c.places-test.true)) (omega (arith, c.places-test.true, c.if-statements-others.false)) (one_by_one c.args.order.now c.args.statements.now ∙ same) ∙ sym (ap statement_of c.index-others-at.is))

pub places-preserved : goal.places-preserved
places-preserved c = record {
  within = omega (arith, c.places-test.true);
  same = one_more (there c.args.order.now) statement_of c.args.statements.now c.args.others.now c.places.at _ _ (omega (arith, c.places-test.true)) (omega (arith, c.places-test.true, c.if-statements-others.false)) c.places.invariant.same
      (sym (ap (there c.args.order.now) c.index-statements-at.is) ∙ c.is_same.ensures.yes c.if-not-is_same.false ∙ ap statement_of c.index-others-at.is);
}

pub returns-clause-yes : goal.returns-clause-yes
returns-clause-yes c = λ _. sym (one_by_one c.args.order.now c.args.statements.now) ∙ sym (take_all c.places.at (map (there c.args.order.now) c.args.statements.now) (omega (arith, c.places-test.false, length-map c.args.statements.now (there c.args.order.now))))
    ∙ c.places.invariant.same ∙ take_all c.places.at (map statement_of c.args.others.now) (omega (arith, c.places-test.false, c.if-statements-others.false, length-map c.args.others.now statement_of))
