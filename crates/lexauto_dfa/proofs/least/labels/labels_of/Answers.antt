use Rattle.std.proofs.Common.{rules, ◌≡◌, ℕ, ◌<◌, ◌+◌, ◌⊎◌, List, Some, length, sym, ap, subst, ◌∙◌, Vec, Global}
use Rattle.lexauto_dfa.specs.Lists.{look, list_at, Labelled}
use Rattle.lexauto_dfa.proofs.Labelling.{list_is, labelled_more, labelled_all}
use Rattle.lexauto_dfa.proofs.least.labels.labels_of.Goals as goal

pub loop-state-preserved : goal.loop-state-preserved
loop-state-preserved c =
    let vs = c.args.lists.now in
    let n = c.loop-state.state in
    let low : n < length vs = search rules in
    let is : list_at vs n ≡ c.deref.result.now.items =
    list_is vs n c.index-lists-state.result low c.index-lists-state.is ∙ ap (λ (v : Vec ℕ Global). v.items) (sym c.deref.ensures) in
    let l = c.in_ok-first_with.field-0 in
    subst (λ (xs : List ℕ). Labelled vs (look c.first_with.new.firsts) xs (n + 1)) (sym c.in_ok-push.ensures.items)
    (labelled_more vs (look c.loop-state.firsts) (look c.first_with.new.firsts) c.loop-state.labels.items n l c.loop-state.invariant
    (ap (look c.first_with.new.firsts) is ∙ c.in_ok-first_with.ensures.found)
    c.in_ok-first_with.ensures.keeps
    (subst (λ (q : List ℕ). (k : List ℕ) (i : ℕ) → look c.first_with.new.firsts k ≡ Some i → (look c.loop-state.firsts k ≡ Some i) ⊎ ((k ≡ q) × (i ≡ n))) (sym is) c.in_ok-first_with.ensures.only))

pub returns : goal.returns
returns c =
    let vs = c.args.lists.now in
    let all : c.loop-state.state ≡ length vs = search rules in
    labelled_all vs (look c.loop-state.firsts) c.loop-state.labels.items (subst (λ (n : ℕ). Labelled vs (look c.loop-state.firsts) c.loop-state.labels.items n) all c.loop-state.invariant)
