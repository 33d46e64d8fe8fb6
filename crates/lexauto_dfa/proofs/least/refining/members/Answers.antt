use Rattle.std.proofs.Common.{ℕ, ◌-◌, List, slice_index, take, drop, arith, sym, ap, ◌∙◌}
use Rattle.std.proofs.lemmas.List.{get_or_read}
use Rattle.lexauto_dfa.proofs.Stretched.{members_of}
use Rattle.lexauto_dfa.proofs.least.refining.members.Goals as goal

pub returns-clause-of : goal.returns-clause-of
returns-clause-of c =
    let b = c.args.blocks.now in
    let a = c.requires.arranged in
    let low = c.requires.number in
    let f = sym (get_or_read b.first.items _ _ low c.index.ensures 0) in
    let t = sym (get_or_read b.end.items _ _ (let e = a.ends in omega (arith, e, low)) c.index-2.ensures 0) in
    let h = c.in_ok-states.ensures.items in
    let g = c.deref.ensures.value in
    members_of b a c.args.number low c.in_ok-states.states.items (h
    ∙ ap (λ (ys : List ℕ). take (c.index-2.result.now - c.index.result.now) (drop c.index.result.now ys)) g
    ∙ ap (λ (i : ℕ). take (c.index-2.result.now - i) (drop i b.order.items)) (sym f)
    ∙ ap (λ (i : ℕ). take (i - slice_index b.first.items c.args.number) (drop (slice_index b.first.items c.args.number) b.order.items)) (sym t))
