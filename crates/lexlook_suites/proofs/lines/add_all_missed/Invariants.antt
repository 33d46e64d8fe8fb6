use Rattle.std.proofs.Common.{◌≡◌, ◌++◌, map, take}
use Rattle.lexlook_suites.specs.CoverLines.{missed_lines}
use Rattle.lexlook_suites.proofs.lines.add_all_missed.Given as goal

abbrev pub invariant-loop-edge : goal.invariant-loop-edge
invariant-loop-edge l = l.text.items ≡ l.fn.text.items ++ missed_lines (map (λ n. n.now) l.names) (take l.edge-index l.missed)
