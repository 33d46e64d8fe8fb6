use Rattle.std.proofs.Common.{◌≡◌, ◌++◌, codes, flat_map, take}
use Rattle.lexlook_check.specs.Places.{file_line_words}
use Rattle.lexlook_check.proofs.takings.add_places.Given as goal

abbrev pub invariant-loop-line : goal.invariant-loop-line
invariant-loop-line l = l.text.items ≡ l.fn.text.items ++ flat_map (λ n. codes " " ++ file_line_words l.files n) (take l.line-index l.lines)
