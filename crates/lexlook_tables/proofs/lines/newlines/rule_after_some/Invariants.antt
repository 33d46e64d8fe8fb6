use Rattle.std.proofs.Common.{ℕ, ◌<◌, get_or, None}
use Rattle.lexlook_tables.specs.Obstacles.{FirstOf, RuleAfter}
use Rattle.lexlook_tables.proofs.lines.newlines.rule_after_some.Given as goal

abbrev pub invariant-loop-state : goal.invariant-loop-state
invariant-loop-state g l = (p : ℕ) → p < l.state-index → FirstOf (RuleAfter (g.M.Machine.machine l.machine) (get_or l.found p 0)) None
