use Rattle.std.proofs.Common.{◌≡◌, [], ◌++◌, flat_map, map}
use Rattle.std.specs.Prelude.{slice_index, slice_index_or}
use Rattle.std.specs.List.{range_with_len}
use Rattle.lexlook_counts.specs.CountLines.{turn_line}
use Rattle.lexlook_counts.proofs.lines.add_conditions.Given as goal

abbrev pub invariant-loop-condition : goal.invariant-loop-condition
invariant-loop-condition l = l.text.items ≡ l.fn.text.items ++ flat_map (λ c. turn_line l.form (slice_index_or (map (λ n. n.now) l.names) c []) (slice_index l.turns c)) (range_with_len 0 l.condition)
