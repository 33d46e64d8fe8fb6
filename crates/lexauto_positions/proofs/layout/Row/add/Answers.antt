use Rattle.std.proofs.Common.{◌+◌, ◌++◌, List, map, sym, ap, subst, ◌∙◌}
use Rattle.lex_semantics.specs.Positions.{positions_of}
use Rattle.lex_semantics.specs.Tree.{trees, Cat}
use Rattle.lexauto_positions.specs.Alike.{Alike, choice_of}
use Rattle.lexauto_positions.specs.Plans.{plan_of, plans, trees_in, trees_laid, AreSized}
use Rattle.lexauto_positions.specs.declared.layout.SizedPattern.{SizedPattern}
use Rattle.lexauto_positions.proofs.AlikeLaws.{sized_more, are_sized_more}
use Rattle.lexauto_positions.proofs.RowLaws.{series_left_out, choice_left_out, series_more, choice_more}
use Rattle.lexauto_positions.proofs.layout.Row.add.Goals as goal

pub returns-then-is_nothing-clause-series : goal.returns-then-is_nothing-clause-series
returns-then-is_nothing-clause-series c t rest whole h k =
    series_left_out c.args.self.now.parts.items c.args.part t rest whole h (c.is_nothing.ensures c.if-is_nothing.true) k

pub returns-then-is_nothing-clause-choice : goal.returns-then-is_nothing-clause-choice
returns-then-is_nothing-clause-choice c t rest whole h k =
    choice_left_out c.args.self.now.parts.items c.args.part t rest whole h (c.is_nothing.ensures c.if-is_nothing.true) c.args.self.now.has_empty k

pub returns-clause-sized : goal.returns-clause-sized
returns-clause-sized c =
    subst (λ (ps : List SizedPattern). AreSized (plans (map plan_of ps))) (sym c.in_ok-push.ensures.items) (are_sized_more c.args.self.now.parts.items c.args.part c.requires.sized c.requires.part)

pub returns-clause-count : goal.returns-clause-count
returns-clause-count c before =
    ap (λ n. n + c.size.result) before ∙ ap (λ n. positions_of (trees_in (plans (map plan_of c.args.self.now.parts.items))) + n) c.size.ensures ∙ sym (sized_more c.args.self.now.parts.items c.args.part)
    ∙ ap (λ (ps : List SizedPattern). positions_of (trees_in (plans (map plan_of ps)))) (sym c.in_ok-push.ensures.items)

pub returns-clause-series : goal.returns-clause-series
returns-clause-series c t rest whole h k =
    subst (λ (ps : List SizedPattern). Alike (Cat (trees (trees_laid ps ++ rest))) whole) (sym c.in_ok-push.ensures.items) (series_more c.args.self.now.parts.items c.args.part t rest whole h k)

pub returns-clause-choice : goal.returns-clause-choice
returns-clause-choice c t rest whole h k =
    subst (λ (ps : List SizedPattern). Alike (choice_of c.args.self.now.has_empty (trees (trees_laid ps ++ rest))) whole) (sym c.in_ok-push.ensures.items)
    (choice_more c.args.self.now.parts.items c.args.part t rest whole h c.args.self.now.has_empty k)
