use Rattle.std.proofs.Common.{◌≡◌, ◌-◌, map}
use Rattle.std.specs.List.{range_with_len}
use Rattle.lex_semantics.specs.Text.{flag}
use Rattle.lexlook_suites.specs.Edges.{rule_at}
use Rattle.lexlook_suites.proofs.edges.state_parts.Given as goal

abbrev pub invariant-loop-state : goal.invariant-loop-state
invariant-loop-state l = l.parts.items ≡ map (λ s. record { rule = rule_at l.dfa.parts l.rules s; walked = flag l.marks.states.items s }) (range_with_len 1 (l.state - 1))
