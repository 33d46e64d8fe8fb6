use Rattle.std.proofs.Common.{◌≡◌, map, take}
use Rattle.lexspec_actions.specs.Views.{condition_of}
use Rattle.lexlook_suites.proofs.suite.copied_names.Given as goal

abbrev pub invariant-loop-condition : goal.invariant-loop-condition
invariant-loop-condition l = map (λ n. n.items) l.names.items ≡ map (λ c. c.name) (map condition_of (take l.condition-index l.conditions))
