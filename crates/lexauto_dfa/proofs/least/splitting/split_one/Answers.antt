use Rattle.std.proofs.Common.{rules, ◌≡◌, ◌^◌, ℕ, ◌<◌, ◌++◌, ◌∷◌, [], true, false, Bool, List, length, arith, sym, ap, subst, ◌∙◌}
use Rattle.lexauto_dfa.specs.Sources.{Has}
use Rattle.lexauto_dfa.proofs.Dividing.{few_blocks}
use Rattle.lexauto_dfa.proofs.Noting.{has_more, has_last}
use Rattle.lexauto_dfa.proofs.GoesOn.{goes_on}
use Rattle.lexauto_dfa.proofs.least.splitting.split_one.Goals as goal

pub overflow_cast-new : goal.overflow_cast-new
overflow_cast-new c =
    let b = c.args.blocks.now in
    let f = few_blocks b.order.items b.place.items b.block.items b.first.items b.middle.items b.end.items c.requires.arranged in
    let s = c.requires.arranged.few in
    let l : c.len-new.result ≡ length b.first.items = search rules in
    let low : c.len-new.result < 2 ^ 32 = omega (arith, f, s, l) in
    search (rules, low)

pub returns-in_ok-push-clause-goes_on : goal.returns-in_ok-push-clause-goes_on
returns-in_ok-push-clause-goes_on c = λ old waited m same g.
    let b = c.args.blocks.now in
    let ws = c.args.waiting.now.items in
    let l : c.len-new.result ≡ length b.first.items = search rules in
    let items : c.push.new.self.items ≡ ws ++ length b.first.items ∷ [] = c.in_ok-push.ensures.items ∙ ap (λ (n : ℕ). ws ++ n ∷ []) l in
    goes_on old b c.split_block.new.blocks waited ws c.push.new.self.items m c.args.number c.in_ok-split_block.field-0 c.requires.arranged same c.requires.number c.in_ok-split_block.ensures.cut
    (λ d h. subst (λ (xs : List ℕ). Has xs d) (sym items) (has_more ws (length b.first.items) d h))
    (λ t. subst (λ (xs : List ℕ). Has xs (length b.first.items)) (sym items) (has_last ws (length b.first.items))) g

pub returns-else-branch-clause-goes_on : goal.returns-else-branch-clause-goes_on
returns-else-branch-clause-goes_on c = λ old waited m same g.
    let b = c.args.blocks.now in
    let ws = c.args.waiting.now.items in
    goes_on old b c.split_block.new.blocks waited ws ws m c.args.number c.in_ok-split_block.field-0 c.requires.arranged same c.requires.number c.in_ok-split_block.ensures.cut
    (λ d h. h) (λ t. absurd (clash c.in_ok-split_block.field-0 t c.if-branch.false)) g
  where
    clash : (b : Bool) → b ≡ true → b ≡ false → ⊥
    clash b h k = absurd cc
