use Rattle.std.proofs.Common.{◌≡◌, ◌++◌, flat_map, map}
use Rattle.std.specs.List.{range_with_len}
use Rattle.lexlook_calls.specs.Headers.{first_called, number_line}
use Rattle.lexlook_calls.proofs.header.add_numbers.Given as goal

abbrev pub invariant-loop-rule : goal.invariant-loop-rule
invariant-loop-rule l = l.text.items ≡ l.fn.text.items ++ flat_map (λ i. number_line (first_called (map (λ n. n.items) l.names) i)) (range_with_len 0 l.rule)
