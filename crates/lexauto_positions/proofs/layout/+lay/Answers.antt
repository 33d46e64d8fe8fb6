use Rattle.std.proofs.lemmas.Grind.{common_steps}
use Rattle.std.proofs.Common.{rules, ◌≡◌, ◌+◌, ◌≤◌, ◌++◌, ◌∷◌, List, length, map, drop, arith, sym, ap, subst, ◌∙◌}
use Rattle.lex_semantics.specs.Positions.{positions, positions_of}
use Rattle.lex_semantics.specs.Tree.{Tree, trees, Cat, Alt, Star, Repeat}
use Rattle.lexre.specs.Views.{tree_of}
use Rattle.lexauto_positions.specs.Alike.{Alike, choice_of}
use Rattle.lexauto_positions.specs.Plans.{plan_of, tree_in, trees_laid}
use Rattle.lexauto_positions.proofs.AlikeLaws.{none_after, drop_one, drop_none, alike_nothing, alike_on, alike_star, alike_repeat, if_ok_by}
use Rattle.lexre.specs.declared.pattern.Pattern.TheFolds as P
use Rattle.lexre.proofs.BareLaws.{marked_positions, series_tree_of, choice_tree_of}
use Rattle.lexauto_positions.specs.declared.layout.SizedPattern.TheFolds as L
use Rattle.lexauto_positions.proofs.layout.+lay.Goals as goal

pub lay-returns-then-size-eq0-clause-alike : goal.lay-returns-then-size-eq0-clause-alike
lay-returns-then-size-eq0-clause-alike t c =
    let a = alike_nothing (tree_of c.args.pattern.now) c.requires.sound (sym c.in_ok-part.ensures.alike.size ∙ sym c.size.ensures ∙ c.if-size-eq0.true) in
    search (rules, L.the_lemmas, a)

pub lay_all-loop-part-preserved : goal.lay_all-loop-part-preserved
lay_all-loop-part-preserved t c =
    let i = c.loop-part.part-index in
    let rest : map tree_of (drop i c.args.parts.now) ≡ tree_of c.part-item.result ∷ map tree_of (drop (i + 1) c.args.parts.now) = drop_one tree_of c.args.parts.now i c.part-item.result c.loop-part-test.true c.part-item.is in
    let same : positions (tree_in (plan_of c.in_ok-part.part)) ≡ positions (tree_of c.part-item.result) = c.in_ok-part.ensures.alike.size in
    let sum : positions_of (trees (map tree_of (drop i c.args.parts.now))) ≡ positions (tree_of c.part-item.result) + positions_of (trees (map tree_of (drop (i + 1) c.args.parts.now))) = ap (λ ts. positions_of (trees ts)) rest in
    let before = c.loop-part.invariant.total in
    let grown = c.in_ok-add.ensures.size in
    let whole_series = Cat (trees (map tree_of c.args.parts.now)) in
    let whole_choice = Alt (trees (map tree_of c.args.parts.now)) in
    record {
      sound = search rules;
      sized = c.in_ok-add.ensures.sized;
      size = c.in_ok-add.ensures.count c.loop-part.invariant.size;
      total = omega (arith, same, sum, before, grown);
      series = c.in_ok-add.ensures.series (tree_of c.part-item.result) (map tree_of (drop (i + 1) c.args.parts.now)) whole_series c.in_ok-part.ensures.alike
          (subst (λ (ts : List Tree). Alike (Cat (trees (trees_laid c.loop-part.row.parts.items ++ ts))) whole_series) rest c.loop-part.invariant.series);
      choice = c.in_ok-add.ensures.choice (tree_of c.part-item.result) (map tree_of (drop (i + 1) c.args.parts.now)) whole_choice c.in_ok-part.ensures.alike
          (subst (λ (ts : List Tree). Alike (choice_of c.loop-part.row.has_empty (trees (trees_laid c.loop-part.row.parts.items ++ ts))) whole_choice) rest c.loop-part.invariant.choice);
    }

pub lay_all-returns-clause-series : goal.lay_all-returns-clause-series
lay_all-returns-clause-series t c =
    let laid = trees_laid c.loop-part.row.parts.items in
    let done : length c.args.parts.now ≤ c.loop-part.part-index = search rules in
    let none = drop_none tree_of c.args.parts.now c.loop-part.part-index done in
    let left : laid ++ map tree_of (drop c.loop-part.part-index c.args.parts.now) ≡ laid = ap (λ (ts : List Tree). laid ++ ts) none ∙ none_after laid in
    subst (λ (ts : List Tree). Alike (Cat (trees ts)) (Cat (trees (map tree_of c.args.parts.now)))) left c.loop-part.invariant.series

pub lay_all-returns-clause-choice : goal.lay_all-returns-clause-choice
lay_all-returns-clause-choice t c =
    let laid = trees_laid c.loop-part.row.parts.items in
    let done : length c.args.parts.now ≤ c.loop-part.part-index = search rules in
    let none = drop_none tree_of c.args.parts.now c.loop-part.part-index done in
    let left : laid ++ map tree_of (drop c.loop-part.part-index c.args.parts.now) ≡ laid = ap (λ (ts : List Tree). laid ++ ts) none ∙ none_after laid in
    subst (λ (ts : List Tree). Alike (choice_of c.loop-part.row.has_empty (trees ts)) (Alt (trees (map tree_of c.args.parts.now)))) left c.loop-part.invariant.choice

pub lay_node-returns-in_ok-row-in-Cat-clause-alike : goal.lay_node-returns-in_ok-row-in-Cat-clause-alike
lay_node-returns-in_ok-row-in-Cat-clause-alike t c =
    let laid = Cat (trees (trees_laid c.in_ok-row-in-Cat.row.parts.items)) in
    let all = trees (map tree_of c.items.result.now) in
    let is : Cat all ≡ tree_of c.args.pattern.now = search (rules, P.the_lemmas) in
    subst (λ (u : Tree). Alike (tree_in (plan_of c.series.result)) u) is
    (alike_on (tree_in (plan_of c.series.result)) laid (Cat all) c.series.ensures.alike c.in_ok-row-in-Cat.ensures.series)

pub lay_node-returns-in_ok-row-in-Alt-clause-alike : goal.lay_node-returns-in_ok-row-in-Alt-clause-alike
lay_node-returns-in_ok-row-in-Alt-clause-alike t c =
    let laid = choice_of c.in_ok-row-in-Alt.row.has_empty (trees (trees_laid c.in_ok-row-in-Alt.row.parts.items)) in
    let all = trees (map tree_of c.items-in-Alt.result.now) in
    let is : Alt all ≡ tree_of c.args.pattern.now = search (rules, P.the_lemmas) in
    if_ok_by c.choice.result (λ p. Alike (tree_in (plan_of p)) laid) (λ p. Alike (tree_in (plan_of p)) (tree_of c.args.pattern.now))
    (λ p h. subst (λ (u : Tree). Alike (tree_in (plan_of p)) u) is (alike_on (tree_in (plan_of p)) laid (Alt all) h c.in_ok-row-in-Alt.ensures.choice)) c.choice.ensures.alike

pub lay_node-returns-in_ok-part-in-Star-clause-alike : goal.lay_node-returns-in_ok-part-in-Star-clause-alike
lay_node-returns-in_ok-part-in-Star-clause-alike t c =
    let own = tree_in (plan_of c.in_ok-part-in-Star.part) in
    let inner = tree_of c.deref.result.now in
    let is : Star inner ≡ tree_of c.args.pattern.now = search (rules, P.the_lemmas) in
    let alike : Alike (Star own) (tree_of c.args.pattern.now) = subst (λ (u : Tree). Alike (Star own) u) is (alike_star own inner c.in_ok-part-in-Star.ensures.alike) in
    if_ok_by c.sign_part.result (λ p. Alike (tree_in (plan_of p)) (Star own)) (λ p. Alike (tree_in (plan_of p)) (tree_of c.args.pattern.now))
    (λ p h. alike_on (tree_in (plan_of p)) (Star own) (tree_of c.args.pattern.now) h alike) c.sign_part.ensures.alike

pub lay_node-returns-in_ok-part-in-Repeat-clause-alike : goal.lay_node-returns-in_ok-part-in-Repeat-clause-alike
lay_node-returns-in_ok-part-in-Repeat-clause-alike t c =
    let own = tree_in (plan_of c.in_ok-part-in-Repeat.part) in
    let inner = tree_of c.deref-in-Repeat.result.now in
    let m = c.in-Repeat.least in
    let n = c.in-Repeat.most in
    let is : Repeat inner m n ≡ tree_of c.args.pattern.now = search (rules, P.the_lemmas) in
    let alike : Alike (Repeat own m n) (tree_of c.args.pattern.now) = subst (λ (u : Tree). Alike (Repeat own m n) u) is (alike_repeat m n own inner c.in_ok-part-in-Repeat.ensures.alike) in
    if_ok_by c.repeat.result (λ p. Alike (tree_in (plan_of p)) (Repeat own m n)) (λ p. Alike (tree_in (plan_of p)) (tree_of c.args.pattern.now))
    (λ p h. alike_on (tree_in (plan_of p)) (Repeat own m n) (tree_of c.args.pattern.now) h alike) c.repeat.ensures.alike

pub lay_node-returns-then-is_bare-clause-alike : goal.lay_node-returns-then-is_bare-clause-alike
lay_node-returns-then-is_bare-clause-alike t c =
    let marked = sym c.is_bare.ensures ∙ c.if-is_bare.true in
    let none : positions (tree_of c.args.pattern.now) ≡ 0 = rw c.in-Cat.is (rw (series_tree_of c.in-Cat.parts) (marked_positions _ _ marked)) in
    let a = alike_nothing (tree_of c.args.pattern.now) c.requires.sound none in
    search (rules, L.the_lemmas, a)

pub lay_node-returns-then-is_bare-2-clause-alike : goal.lay_node-returns-then-is_bare-2-clause-alike
lay_node-returns-then-is_bare-2-clause-alike t c =
    let marked = sym c.is_bare-in-Alt.ensures ∙ c.if-is_bare-2.true in
    let none : positions (tree_of c.args.pattern.now) ≡ 0 = rw c.in-Alt.is (rw (choice_tree_of c.in-Alt.parts) (marked_positions _ _ marked)) in
    let a = alike_nothing (tree_of c.args.pattern.now) c.requires.sound none in
    search (rules, L.the_lemmas, a)

pub lay_all-add-requires-clause-few : goal.lay_all-add-requires-clause-few
lay_all-add-requires-clause-few = grind (arith, common_steps)

pub lay_all-loop-part-init : goal.lay_all-loop-part-init
lay_all-loop-part-init = grind (arith, common_steps)
