use Rattle.std.proofs.Common.{◌≡◌, ◌++◌, flat_map, map}
use Rattle.std.specs.Prelude.{slice_get}
use Rattle.std.specs.List.{range_with_len}
use Rattle.lexlook_calls.specs.Words.{default_line}
use Rattle.lexlook_calls.proofs.words.add_defaults.Given as goal

abbrev pub invariant-loop-condition : goal.invariant-loop-condition
invariant-loop-condition l = l.text.items ≡ l.fn.text.items ++ flat_map (λ i. default_line (map (λ n. n.now) l.names) i (slice_get l.words.defaults.items i)) (range_with_len 0 l.condition)
