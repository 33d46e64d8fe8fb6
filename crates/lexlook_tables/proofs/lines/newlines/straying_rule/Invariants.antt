use Rattle.std.proofs.Common.{◌≡◌, ℕ, true, take}
use Rattle.lex_semantics.specs.Text.{Among}
use Rattle.lexlook_tables.specs.Lines.{may_keep_last, leaves_line}
use Rattle.lexlook_tables.proofs.lines.newlines.straying_rule.Given as goal

abbrev pub invariant-loop-rule : goal.invariant-loop-rule
invariant-loop-rule g l = (i : ℕ) → Among (take l.rule-index ((g.M.Machine.machine l.machine).accepts l.state)) i → may_keep_last ((g.M.Machine.machine l.machine).cut i) ≡ true → leaves_line l.condition ((g.M.Machine.machine l.machine).statements i) ≡ true
