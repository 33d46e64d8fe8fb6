use Rattle.std.proofs.Common.{ℕ, List, sym, subst, ap, ◌∙◌}
use Rattle.lex_semantics.specs.Active.{contains}
use Rattle.lexauto_positions.specs.Cursors.{Increases}
use Rattle.lexauto.specs.Sets.{marked}
use Rattle.lexauto.proofs.KeyLaws.{all_marked}
use Rattle.lexauto.proofs.following.walk_lasts.Goals as goal

pub is_in_order-requires : goal.is_in_order-requires
is_in_order-requires c = λ h. subst Increases (sym c.lasts_in-lasts.ensures) (c.requires.order h)

pub pass-requires-clause-same : goal.pass-requires-clause-same
pass-requires-clause-same c = λ i.
    let count = c.args.moves.now.count in
    all_marked count c.lasts_in-lasts.result.now (c.is_in_order.ensures.below c.if-is_in_order.true) i
    ∙ ap (λ (ks : List ℕ). marked count ks i) c.lasts_in-lasts.ensures

pub pass-requires-2-clause-same : goal.pass-requires-2-clause-same
pass-requires-2-clause-same c = λ i.
    ap (λ (l : List ℕ). contains l i) c.deref.ensures.value ∙ c.in_ok-last.ensures.same i
    ∙ ap (λ (ks : List ℕ). marked c.args.moves.now.count ks i) c.lasts_in-lasts.ensures
