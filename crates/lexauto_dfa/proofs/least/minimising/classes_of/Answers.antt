use Rattle.std.proofs.Common.{◌≡◌, ℕ, List, length, slice_index, arith, ap, subst, ◌∙◌}
use Rattle.lexauto_dfa.specs.Futures.{IsCoarsest}
use Rattle.lexauto_dfa.specs.Letters.{bytes_machine}
use Rattle.lexauto_dfa.specs.Views.{automaton_of}
use Rattle.lexauto_dfa.proofs.Bytes.{are_classes}
use Rattle.lexauto_dfa.proofs.Wholes.{is_whole}
use Rattle.lexauto_dfa.proofs.least.minimising.classes_of.Goals as goal

pub returns-clause-classes : goal.returns-clause-classes
returns-clause-classes c =
    let p = c.args.parts.now in
    let A = automaton_of p in
    let labels = c.args.labels.now in
    let classes = c.in_ok-classes.classes.items in
    let l = c.requires.labels in
    let n : length p.accepts.items ≡ length p.goes_on.items = c.requires.automaton.lists in
    let table : c.deref.result.now ≡ p.next.items = c.deref.ensures.value in
    let copied : c.in_ok-copy.copy.items ≡ labels = c.in_ok-copy.ensures.items in
    are_classes A (is_whole p c.requires.automaton) labels classes (l.len ∙ n) (c.in_ok-classes.ensures.len ∙ ap (λ (xs : List ℕ). length xs) copied ∙ l.len ∙ n)
    (λ x y h k. l.same x y (omega (arith, h, n)) (omega (arith, k, n)))
    (λ x y h k. l.one x y (omega (arith, h, n)) (omega (arith, k, n)))
    (subst (λ (xs : List ℕ). IsCoarsest (bytes_machine xs labels) (λ x. slice_index classes x)) table
    (subst (λ (ls : List ℕ). IsCoarsest (bytes_machine c.deref.result.now ls) (λ x. slice_index classes x)) copied c.in_ok-classes.ensures.coarsest))
