use Rattle.std.proofs.Common.{◌≡◌, flat_map, map, take}
use Rattle.lexlook_check.specs.JsonLines.{finding_json}
use Rattle.lexlook_check.specs.Takings.{taking_of}
use Rattle.lexlook_check.proofs.json.told_json.Given as goal

abbrev pub invariant-loop-finding : goal.invariant-loop-finding
invariant-loop-finding l = l.text.items ≡ flat_map (finding_json l.files l.whole (map taking_of l.takings)) (take l.finding-index l.findings)
