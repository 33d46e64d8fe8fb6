use Rattle.std.proofs.Common.{◌≡◌, ◌++◌, map}
use Rattle.std.specs.Vec.Iter.{into_iter_items}
use Rattle.lexspec_actions.specs.Views.{statement_of}
use Rattle.lexspec.specs.WaitingRules.{acting}
use Rattle.lexspec.specs.RuleViews.{rule_of}
use Rattle.lexspec.proofs.statements.finish.Given as goal

-- the rules so far, and those that still wait
abbrev pub invariant-loop-waiter : goal.invariant-loop-waiter
invariant-loop-waiter l =
    map rule_of l.rules.items ++ map (acting (map statement_of l.statements.items)) (map rule_of (into_iter_items l.waiter-iterator))
    ≡ map rule_of l.fn.done.items ++ map (acting (map statement_of l.statements.items)) (map rule_of l.fn.waiting.items)
