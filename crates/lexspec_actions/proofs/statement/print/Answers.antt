use Rattle.std.proofs.Common.{rules, ap, ◌∙◌, ◌++◌, ◌≡◌, length}
use Rattle.lexspec_actions.proofs.StatementLemmas.{print_joined, print_other}
use Rattle.lexspec_actions.proofs.statement.print.Goals as goal

pub returns-in_ok-push-in-Print-clause-ok : goal.returns-in_ok-push-in-Print-clause-ok
returns-in_ok-push-in-Print-clause-ok c =
    let some : length c.args.bytes.items ≡ 0 → ⊥ = search rules in
    print_joined _ _ _ _ _ _ c.args.bytes c.in-Some.ensures.items c.in-Print.is c.in_ok-push-in-Print.ensures.items
    (c.in_ok-extend_from_slice-in-Print.ensures.items ∙ ap (λ x. c.in-Print.front.items ++ x) c.deref.ensures.value) some

pub returns-in_ok-push-in_default-2-clause-ok : goal.returns-in_ok-push-in_default-2-clause-ok
returns-in_ok-push-in_default-2-clause-ok c =
    let some : length c.args.bytes.items ≡ 0 → ⊥ = search rules in
    print_other _ _ _ _ _ c.args.bytes c.in-Some.ensures.items c.in_default.not-Print c.in_ok-push-in_default.ensures.items c.in_ok-push-in_default-2.ensures.items some
