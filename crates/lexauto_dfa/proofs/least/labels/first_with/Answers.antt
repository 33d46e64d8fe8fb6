use Rattle.std.proofs.Common.{◌≡◌, ℕ, List, Some, None, sym, subst, ◌∙◌}
use Rattle.std.specs.BTreeMap.{UpdatesBy}
use Rattle.std.specs.Cmp.Lexicographic.{slice_cmp}
use Rattle.std.specs.Ordering.{nat_cmp}
use Rattle.lexauto_dfa.specs.Lists.{look}
use Rattle.lexauto_dfa.proofs.Looks.{look_after, keeps_looks, only_looks}
use Rattle.lexauto_dfa.proofs.least.labels.first_with.Goals as goal

pub returns-clause-keeps : goal.returns-clause-keeps
returns-clause-keeps c =
    let list = c.args.list.now.items in
    let m = c.args.firsts.now in
    let none : look m list ≡ None = sym c.in_default.ensures.value in
    let same : c.in_ok-copy.copy.items ≡ list = c.in_ok-copy.ensures.items ∙ c.deref.ensures.value in
    let updates = subst (λ (l : List ℕ). UpdatesBy (λ x y. slice_cmp nat_cmp x.items y.items) (λ v. slice_cmp nat_cmp l v.items) m c.insert.new.self (Some c.args.state)) same c.in_ok-insert.ensures.updates in
    keeps_looks (look m) (look c.insert.new.self) list c.args.state none (look_after m c.insert.new.self list (Some c.args.state) updates)

pub returns-clause-only : goal.returns-clause-only
returns-clause-only c =
    let list = c.args.list.now.items in
    let m = c.args.firsts.now in
    let none : look m list ≡ None = sym c.in_default.ensures.value in
    let same : c.in_ok-copy.copy.items ≡ list = c.in_ok-copy.ensures.items ∙ c.deref.ensures.value in
    let updates = subst (λ (l : List ℕ). UpdatesBy (λ x y. slice_cmp nat_cmp x.items y.items) (λ v. slice_cmp nat_cmp l v.items) m c.insert.new.self (Some c.args.state)) same c.in_ok-insert.ensures.updates in
    only_looks (look m) (look c.insert.new.self) list c.args.state none (look_after m c.insert.new.self list (Some c.args.state) updates)
