use Rattle.std.proofs.Common.{◌≡◌, ℕ, ◌<◌, true}
use Rattle.lexlook_tables.specs.Lines.{is_steady}
use Rattle.lexlook_tables.proofs.lines.cutting.unsteady_rule.Given as goal

abbrev pub invariant-loop-rule : goal.invariant-loop-rule
invariant-loop-rule g l = (i : ℕ) → i < l.rule → is_steady ((g.M.Machine.machine l.machine).statements i) ≡ true
