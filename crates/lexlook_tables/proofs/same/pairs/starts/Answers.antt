use Rattle.std.proofs.Common.{◌≡◌, ℕ, ◌+◌, List, [], ◌∷◌, ◌++◌, sym, ap, subst, ◌∙◌}
use Rattle.lex_semantics.specs.Machine.{Machine}
use Rattle.lexlook_tables.specs.Searching.{AreStarts}
use Rattle.lexlook_tables.proofs.Starting.{two_more}
use Rattle.lexlook_tables.proofs.same.pairs.starts.Goals as goal

pub loop-condition-preserved : goal.loop-condition-preserved
loop-condition-preserved g c = subst (λ l. AreStarts order M N (g.A.Machine.states c.args.left.now) (g.B.Machine.states c.args.right.now) l (c.loop-condition.condition + 1)) (sym items)
    (two_more order M N _ _ c.loop-condition.pairs.items c.loop-condition.condition c.start_at.result c.start_at-in-loop-condition.result c.loop-condition.invariant (c.start_at.ensures.known_left, c.start_at.ensures.known_right) (c.start_at-in-loop-condition.ensures.known_left, c.start_at-in-loop-condition.ensures.known_right)
    c.start_at.ensures.from c.start_at-in-loop-condition.ensures.from (record { left = c.start_at.ensures.left; right = c.start_at.ensures.right; far = c.start_at.ensures.far })
    (record { left = c.start_at-in-loop-condition.ensures.left; right = c.start_at-in-loop-condition.ensures.right; far = c.start_at-in-loop-condition.ensures.far }))
  where
    order : List ℕ
    order = c.args.order.now

    M : Machine
    M = g.A.Machine.machine c.args.left.now

    N : Machine
    N = g.B.Machine.machine c.args.right.now

    items : c.push-in-loop-condition.new.self.items ≡ (c.loop-condition.pairs.items ++ c.start_at.result ∷ []) ++ c.start_at-in-loop-condition.result ∷ []
    items = c.in_ok-push-2.ensures.items ∙ ap (λ l. l ++ c.start_at-in-loop-condition.result ∷ []) c.in_ok-push.ensures.items
