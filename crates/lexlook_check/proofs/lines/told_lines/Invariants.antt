use Rattle.std.proofs.Common.{◌≡◌, flat_map, map, take}
use Rattle.lexlook_check.specs.CheckLines.{finding_lines}
use Rattle.lexlook_check.specs.Takings.{taking_of}
use Rattle.lexlook_check.proofs.lines.told_lines.Given as goal

abbrev pub invariant-loop-finding : goal.invariant-loop-finding
invariant-loop-finding l = l.text.items ≡ flat_map (finding_lines l.files l.whole (map taking_of l.takings)) (take l.finding-index l.findings)
