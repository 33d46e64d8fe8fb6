use Rattle.std.proofs.Common.{◌≡◌, ◌++◌, drop, map}
use Rattle.lexlook_letters.specs.Sequences.{last_range}
use Rattle.lexlook_letters.specs.Text.{ranges_text}
use Rattle.lexlook_letters.proofs.text.add_last_class.Given as goal

abbrev pub invariant-loop-sequence : goal.invariant-loop-sequence
invariant-loop-sequence l =
    l.text.items ++ ranges_text (map last_range (drop l.sequence-index l.sequences)) ≡ l.initial.text.items ++ ranges_text (map last_range l.sequences)
