use Rattle.std.proofs.Common.{◌≡◌, ◌<◌, ◌+◌, ◌↔◌, ◌++◌, ◌∷◌, [], ℕ, false, List, Vec, Global, subst, sym, ap, ◌∙◌}
use Rattle.lex_semantics.specs.Text.{Among, Ascending, flag}
use Rattle.lexauto_dfa.proofs.Accepting.{ascending_push, unset_more, unset_not}
use Rattle.lexauto_dfa.proofs.accepted.unset.Goals as goal
use Rattle.lexauto_dfa.proofs.accepted.unset.Goals.{then-not-flags-place+in_ok-push, else-not-flags-place}

pub loop-place-preserved : goal.loop-place-preserved
loop-place-preserved c =
    let v = c.loop-place.invariant in
    let i = c.loop-place.place in
    let flags = c.args.flags.now in
    elim c.if-not-flags-place.branch [
      | then-not-flags-place+in_ok-push w ↦
          (let e : c.if-not-flags-place.places.items ≡ c.loop-place.places.items ++ i ∷ [] = ap (λ (p : Vec ℕ Global). p.items) w.places-is ∙ w.in_ok-push.ensures.items in
          record {
            ascending = subst Ascending (sym e) (ascending_push c.loop-place.places.items i v.ascending (λ x a. ((v.unset x).0 a).0));
            unset = λ k. subst (λ (l : List ℕ). Among l k ↔ ((k < i + 1) × (flag flags k ≡ false))) (sym e) (unset_more flags c.loop-place.places.items i w.if-not-flags-place.true v.unset k);
          })
      | else-not-flags-place w ↦
          (let e : c.if-not-flags-place.places.items ≡ c.loop-place.places.items = ap (λ (p : Vec ℕ Global). p.items) w.places-is in
          record {
            ascending = subst Ascending (sym e) v.ascending;
            unset = λ k. subst (λ (l : List ℕ). Among l k ↔ ((k < i + 1) × (flag flags k ≡ false))) (sym e) (unset_not flags c.loop-place.places.items i w.if-not-flags-place.false v.unset k);
          })
    ]
