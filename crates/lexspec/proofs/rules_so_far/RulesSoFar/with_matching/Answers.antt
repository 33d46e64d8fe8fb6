use Rattle.std.proofs.Common.{refl}
use Rattle.std.specs.Prelude.{map}
use Rattle.lexspec_actions.specs.Views.{statement_of}
use Rattle.lexspec.proofs.BarLaws.{action_no_bar}
use Rattle.lexspec.proofs.KeepLaws.{keeps_bar, keeps_rule}
use Rattle.lexspec.proofs.SoFarLaws.{action_bar, action_spelled, bar_taken, rule_taken, rule_refused}
use Rattle.lexspec.proofs.rules_so_far.RulesSoFar.with_matching.Goals as goal

pub returns-then-is_bar-clause-found : goal.returns-then-is_bar-clause-found
returns-then-is_bar-clause-found c =
    bar_taken c.args.declarations.now c.args.rule c.args.action.now c.args.self _ (action_bar c.args.action.now _ c.is_bar.ensures c.if-is_bar.true) refl refl c.in_ok-push.ensures.items

pub returns-then-is_bar-clause-keeps : goal.returns-then-is_bar-clause-keeps
returns-then-is_bar-clause-keeps c = λ front room k. keeps_bar c.args.declarations.now c.args.rule c.args.self _ refl refl c.in_ok-push.ensures.items front room k

pub returns-in_ok-rules-in-Ok-clause-found : goal.returns-in_ok-rules-in-Ok-clause-found
returns-in_ok-rules-in-Ok-clause-found c =
    rule_taken c.args.declarations.now c.args.rule c.args.action.now (map statement_of c.in-Ok.statements.items) c.deref.result.now c.args.self _
    (action_spelled c.args.action.now _ c.is_bar.ensures c.if-is_bar.false) c.deref.ensures.value c.in-Ok.ensures.found c.in_ok-rules-in-Ok.ensures refl c.new.ensures.items

pub returns-in_ok-rules-in-Ok-clause-keeps : goal.returns-in_ok-rules-in-Ok-clause-keeps
returns-in_ok-rules-in-Ok-clause-keeps c = λ front room k.
    keeps_rule c.args.declarations.now c.args.rule (map statement_of c.in-Ok.statements.items) c.args.self _ c.in_ok-rules-in-Ok.ensures refl c.new.ensures.items front room k

pub returns-in-Err-clause-none : goal.returns-in-Err-clause-none
returns-in-Err-clause-none c =
    rule_refused c.args.declarations.now c.args.rule c.args.action.now c.in-Err.kind c.deref.result.now c.args.self
    (action_spelled c.args.action.now _ c.is_bar.ensures c.if-is_bar.false) c.deref.ensures.value c.in-Err.ensures.none

pub returns-in-Err-clause-no_bar : goal.returns-in-Err-clause-no_bar
returns-in-Err-clause-no_bar c = action_no_bar c.in-Err.kind c.in-Err.ensures.fault
