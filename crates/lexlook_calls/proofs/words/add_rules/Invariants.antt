use Rattle.std.proofs.Common.{◌≡◌, ◌++◌, flat_map, map}
use Rattle.std.specs.Prelude.{slice_get}
use Rattle.std.specs.List.{range_with_len}
use Rattle.lexlook_calls.specs.Words.{word_line}
use Rattle.lexlook_calls.proofs.words.add_rules.Given as goal

abbrev pub invariant-loop-rule : goal.invariant-loop-rule
invariant-loop-rule l = l.text.items ≡ l.fn.text.items ++ flat_map (λ i. word_line (map (λ n. n.now) l.names) l.lines i (slice_get l.words.rules.items i)) (range_with_len 0 l.rule)
