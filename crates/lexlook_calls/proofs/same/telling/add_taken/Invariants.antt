use Rattle.std.proofs.Common.{◌≡◌, ◌++◌, flat_map, take}
use Rattle.lexlook_calls.specs.Lines.{asked_words}
use Rattle.lexlook_calls.specs.Sides.{read_as}
use Rattle.lexlook_calls.proofs.same.telling.add_taken.Given as goal

abbrev pub invariant-loop-rule : goal.invariant-loop-rule
invariant-loop-rule l = l.text.items ≡ l.fn.text.items ++ flat_map (asked_words (read_as l.given) l.count) (take l.rule-index l.rules)
