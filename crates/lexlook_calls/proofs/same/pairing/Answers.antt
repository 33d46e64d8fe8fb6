use Rattle.std.proofs.Common.{◌≡◌, ◌∙◌, ℕ, List, map, ap, sym, subst, Some}
use Rattle.std.specs.Borrow.{Bor}
use Rattle.std.proofs.lemmas.Result.{IfOk-weaker}
use Rattle.lexspec.specs.Views.{conditions_in, spec_of}
use Rattle.lexlook_calls.specs.Looks.{names_of}
use Rattle.lexlook_calls.specs.Naming.{AreNamed, ArePaired}
use Rattle.lexlook_calls.specs.Sides.{read_as}
use Rattle.lexlook_calls.proofs.same.pairing.Goals as goal

pub returns-in_ok-others-in-Some-other-clause-none : goal.returns-in_ok-others-in-Some-other-clause-none
returns-in_ok-others-in-Some-other-clause-none c = IfOk-weaker c.order_of.result _ _ (λ found h none order paired. h none order (moved order paired)) c.order_of.ensures.none
  where
    names : map (λ (n : Bor (List ℕ)). n.now) c.deref.result.now ≡ names_of (conditions_in (spec_of c.in-Some.left))
    names = ap (map (λ (n : Bor (List ℕ)). n.now)) c.deref.ensures.value ∙ c.in_ok-names-in-Some-other.ensures ∙ ap names_of c.conditions.ensures.conditions

    others : map (λ (n : Bor (List ℕ)). n.now) c.deref-in-Some-other.result.now ≡ names_of (conditions_in (spec_of c.in-Some-other.right))
    others = ap (map (λ (n : Bor (List ℕ)). n.now)) c.deref-in-Some-other.ensures.value ∙ c.in_ok-others-in-Some-other.ensures ∙ ap names_of c.conditions-in-Some-other.ensures.conditions

    moved : (order : List ℕ) → ArePaired (read_as c.args.given.now) (read_as c.args.other.now) order → AreNamed (map (λ (n : Bor (List ℕ)). n.now) c.deref.result.now) (map (λ (n : Bor (List ℕ)). n.now) c.deref-in-Some-other.result.now) order
    moved order paired =
        let named : ArePaired (Some (spec_of c.in-Some.left)) (Some (spec_of c.in-Some-other.right)) order =
        subst (λ g. ArePaired (read_as g) (Some (spec_of c.in-Some-other.right)) order) c.in-Some.is (subst (λ g. ArePaired (read_as c.args.given.now) (read_as g) order) c.in-Some-other.is paired) in
        subst (λ l. AreNamed l (map (λ (n : Bor (List ℕ)). n.now) c.deref-in-Some-other.result.now) order) (sym names) (subst (λ l. AreNamed (names_of (conditions_in (spec_of c.in-Some.left))) l order) (sym others) named)
