use Rattle.std.proofs.Common.{rules, refl, ◌≡◌, length}
use Rattle.lexspec.proofs.BarLaws.{action_no_bar, end_action_no_bar, second_end_no_bar}
use Rattle.lexspec.proofs.KeepLaws.{keeps_end}
use Rattle.lexspec.proofs.SoFarLaws.{action_bar, action_spelled, end_taken, end_refused, end_bar_refused, end_awaited, end_twice}
use Rattle.lexspec.proofs.rules_so_far.RulesSoFar.with_end.Goals as goal

pub returns-then-not-is_empty-clause-none : goal.returns-then-not-is_empty-clause-none
returns-then-not-is_empty-clause-none c =
    let some : length c.args.self.waiting.items ≡ 0 → ⊥ = search rules in
    end_awaited c.args.declarations.now c.args.conditions c.args.action.now c.args.self some

pub returns-then-is_bar-clause-none : goal.returns-then-is_bar-clause-none
returns-then-is_bar-clause-none c =
    end_bar_refused c.args.declarations.now c.args.conditions c.args.action.now c.args.self (action_bar c.args.action.now _ c.is_bar.ensures c.if-is_bar.true)

pub returns-then-not-may_join-clause-none : goal.returns-then-not-may_join-clause-none
returns-then-not-may_join-clause-none c =
    let none : length c.args.self.waiting.items ≡ 0 = search rules in
    end_twice c.args.declarations.now c.args.conditions c.args.action.now (record { conditions = c.args.conditions; action = c.in-Ok.action }) c.deref-in-Ok.result.now c.deref.result.now c.args.self
    c.deref-in-Ok.ensures.value refl
    (action_spelled c.args.action.now _ c.is_bar.ensures c.if-is_bar.false) c.deref.ensures.value c.in-Ok.ensures.found none (c.may_join.ensures.none (c.if-not-may_join.true))

pub returns-in_ok-push-in-Ok-clause-found : goal.returns-in_ok-push-in-Ok-clause-found
returns-in_ok-push-in-Ok-clause-found c =
    let none : length c.args.self.waiting.items ≡ 0 = search rules in
    end_taken c.args.declarations.now c.args.conditions c.args.action.now (record { conditions = c.args.conditions; action = c.in-Ok.action }) c.deref.result.now c.args.self _ refl
    (action_spelled c.args.action.now _ c.is_bar.ensures c.if-is_bar.false) c.deref.ensures.value c.in-Ok.ensures.found none refl c.in_ok-push-in-Ok.ensures.items refl

pub returns-in_ok-push-in-Ok-clause-keeps : goal.returns-in_ok-push-in-Ok-clause-keeps
returns-in_ok-push-in-Ok-clause-keeps c = λ k.
    keeps_end c.args.declarations.now (record { conditions = c.args.conditions; action = c.in-Ok.action }) c.deref-in-Ok.result.now c.args.self _ c.deref-in-Ok.ensures.value refl c.in_ok-push-in-Ok.ensures.items refl (c.may_join.ensures.found c.if-not-may_join.false) k

pub returns-in-Err-clause-none : goal.returns-in-Err-clause-none
returns-in-Err-clause-none c =
    end_refused c.args.declarations.now c.args.conditions c.args.action.now c.in-Err.kind c.deref.result.now c.args.self
    (action_spelled c.args.action.now _ c.is_bar.ensures c.if-is_bar.false) c.deref.ensures.value c.in-Err.ensures.none

pub returns-then-not-is_empty-clause-bar : goal.returns-then-not-is_empty-clause-bar
returns-then-not-is_empty-clause-bar c =
    let some : length c.args.self.waiting.items ≡ 0 → ⊥ = search rules in
    λ is. some

pub returns-then-is_bar-clause-bar : goal.returns-then-is_bar-clause-bar
returns-then-is_bar-clause-bar c = λ is. absurd (end_action_no_bar is)

pub returns-then-not-may_join-clause-bar : goal.returns-then-not-may_join-clause-bar
returns-then-not-may_join-clause-bar c = λ is. absurd (second_end_no_bar is)

pub returns-in-Err-clause-bar : goal.returns-in-Err-clause-bar
returns-in-Err-clause-bar c = λ is. absurd (action_no_bar c.in-Err.kind c.in-Err.ensures.fault is)
