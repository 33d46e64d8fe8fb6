use Rattle.std.proofs.Common.{◌≡◌, ℕ, false, take, []}
use Rattle.lex_semantics.specs.Text.{Among}
use Rattle.lex_semantics.specs.Spec.{Whole, has_reject}
use Rattle.lexlook_tables.specs.Lines.{after_line}
use Rattle.lexlook_tables.proofs.lines.newlines.takes_line.Given as goal

abbrev pub invariant-loop-rule : goal.invariant-loop-rule
invariant-loop-rule g l = (i : ℕ) → Among (take l.rule-index ((g.M.Machine.machine l.machine).accepts (after_line (g.M.Machine.machine l.machine) l.condition l.line_start []))) i → (g.M.Machine.machine l.machine).cut i ≡ Whole → has_reject ((g.M.Machine.machine l.machine).statements i) ≡ false → ⊥
