use Rattle.std.proofs.Common.{◌≡◌, ◌++◌, flat_map, map, take}
use Rattle.lexlook_calls.specs.Overlaps.{overlap_line}
use Rattle.lexlook_calls.proofs.overlaps.add_overlaps.Given as goal

abbrev pub invariant-loop-overlap : goal.invariant-loop-overlap
invariant-loop-overlap l = l.text.items ≡ l.fn.text.items ++ flat_map (overlap_line (map (λ n. n.now) l.names) l.lines) (take l.overlap-index l.overlaps)
