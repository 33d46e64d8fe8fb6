use Rattle.std.proofs.Common.{◌≡◌, flat_map, map}
use Rattle.std.specs.List.{range_with_len}
use Rattle.lexlook_suites.specs.SuiteLines.{lines_under}
use Rattle.lexlook_suites.proofs.suite_lines.Suite.lines.Given as goal

abbrev pub invariant-loop-condition : goal.invariant-loop-condition
invariant-loop-condition l = l.text.items ≡ flat_map (lines_under (map (λ v. v.items) l.self.names.items) l.self.inputs.items) (range_with_len 0 l.condition)
