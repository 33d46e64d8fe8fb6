use Rattle.std.proofs.Common.{ℕ, take}
use Rattle.lex_semantics.specs.Text.{Among}
use Rattle.lexlook_tables.specs.Lines.{Discards}
use Rattle.lexlook_tables.proofs.lines.discarding.discards_at.Given as goal

abbrev pub invariant-loop-rule : goal.invariant-loop-rule
invariant-loop-rule g l = (i : ℕ) → Among (take l.rule-index ((g.M.Machine.machine l.machine).accepts l.state)) i → Discards (g.M.Machine.machine l.machine) i
