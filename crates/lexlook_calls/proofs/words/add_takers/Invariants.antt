use Rattle.std.proofs.Common.{◌≡◌, ◌++◌, codes, flat_map, take}
use Rattle.lexlook_calls.specs.Words.{line_words}
use Rattle.lexlook_calls.proofs.words.add_takers.Given as goal

abbrev pub invariant-loop-rule : goal.invariant-loop-rule
invariant-loop-rule l = l.text.items ≡ (l.fn.text.items ++ codes ": rule cannot be matched, its texts are taken at") ++ flat_map (line_words l.lines) (take l.rule-index l.rules)
