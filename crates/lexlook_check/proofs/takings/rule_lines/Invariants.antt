use Rattle.std.proofs.Common.{◌≡◌, map, take}
use Rattle.lexlook_check.specs.Takings.{numbered_line}
use Rattle.lexlook_check.proofs.takings.rule_lines.Given as goal

abbrev pub invariant-loop-rule : goal.invariant-loop-rule
invariant-loop-rule l = l.found.items ≡ map (numbered_line l.lines) (take l.rule-index l.rules)
