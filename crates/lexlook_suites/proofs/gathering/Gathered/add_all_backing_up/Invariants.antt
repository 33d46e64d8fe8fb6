use Rattle.lexlook_suites.specs.Gathers.{Adds, rules_by}
use Rattle.lexlook_suites.proofs.gathering.Gathered.add_all_backing_up.Given as goal

abbrev pub invariant-loop-place : goal.invariant-loop-place
invariant-loop-place l = Adds (rules_by l.machine) l.dfa.parts l.fn.self l.self
