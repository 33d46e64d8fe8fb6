use Rattle.std.proofs.Common.{◌↔◌, ℕ}
use Rattle.lex_semantics.specs.Text.{Among}
use Rattle.lexauto_reports.specs.Counting.{IsStartBelow}
use Rattle.lexauto_reports.proofs.search.starts.Given as goal

abbrev pub invariant-loop-condition : goal.invariant-loop-condition
invariant-loop-condition l = (x : ℕ) → Among l.starts.items x ↔ IsStartBelow l.dfa.parts l.condition x
