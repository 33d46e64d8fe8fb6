use Rattle.std.proofs.Common.{◌≡◌, map, take}
use Rattle.std.specs.List.{filter}
use Rattle.lexlook_text.specs.LineViews.{line_of}
use Rattle.lexlook_check.specs.BarTrails.{text_at}
use Rattle.lexlook_check.specs.NamedTrails.{ends_in_name}
use Rattle.lexlook_check.proofs.named_trails.trail_lines.Given as goal

abbrev pub invariant-loop-rule : goal.invariant-loop-rule
invariant-loop-rule l = l.found.items ≡ filter (λ n. ends_in_name (text_at (map line_of l.lines) n)) (take l.rule-index l.rules)
