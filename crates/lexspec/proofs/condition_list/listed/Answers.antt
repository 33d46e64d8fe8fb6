use Rattle.std.proofs.Common.{rules, arith, ◌==◌, ◌≡◌, [], length, sym}
use Rattle.lexspec_actions.specs.Names.{number_from, names_of}
use Rattle.lexspec.specs.SubjectViews.{parts}
use Rattle.lexspec.proofs.ListedLaws.{marks_first, marks_next, marks_all, marks_none, last_part, next_part, parts_first, if_none_any}
use Rattle.lexspec.proofs.condition_list.listed.Goals as goal

pub names-init : goal.names-init
names-init c = marks_first (number_from 0 (names_of c.args.conditions.now)) (parts c.args.names.now)

pub returns-in_err-number-clause-none : goal.returns-in_err-number-clause-none
returns-in_err-number-clause-none c =
    if_none_any c.from_residual.result _
    (marks_none (number_from 0 (names_of c.args.conditions.now)) (parts c.args.names.now) (parts c.names.rest.now) _ c.split_before.result.0.now c.names.flags c.names.invariant
    (parts_first c.names.rest.now _ _ (c.split_before.ensures.split (λ b. b == 44) (λ b r h post. search rules))) (sym c.in_err-number.ensures.number))

pub returns-then-is_empty : goal.returns-then-is_empty
returns-then-is_empty c =
    let none : length c.split_before.result.1.now ≡ 0 = search rules in
    let number = number_from 0 (names_of c.args.conditions.now) in
    let all = marks_all number (parts c.args.names.now) _
    (marks_next number (parts c.args.names.now) (parts c.names.rest.now) [] c.split_before.result.0.now c.names.flags c.in_ok-number.number c.names.invariant
    (last_part c.names.rest.now _ _ (c.split_before.ensures.split (λ b. b == 44) (λ b r h post. search rules)) none) (sym c.in_ok-number.ensures.number) (omega (arith, c.in_ok-number.ensures.below))) in
    record { numbered = all.0; listed = all.1; none = tt }

pub names-preserved : goal.names-preserved
names-preserved c =
    let some : length c.split_before.result.1.now ≡ 0 → ⊥ = search rules in
    marks_next (number_from 0 (names_of c.args.conditions.now)) (parts c.args.names.now) (parts c.names.rest.now) (parts c.skip_first-rest.result.now) c.split_before.result.0.now c.names.flags
    c.in_ok-number.number c.names.invariant
    (next_part c.names.rest.now _ _ _ (c.split_before.ensures.split (λ b. b == 44) (λ b r h post. search rules)) some c.skip_first-rest.ensures) (sym c.in_ok-number.ensures.number)
    (omega (arith, c.in_ok-number.ensures.below))
