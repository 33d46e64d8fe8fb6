use Rattle.std.proofs.Common.{◌≡◌, length}
use Rattle.lexspec_lines.specs.Lines.{words}
use Rattle.lexspec_lines.specs.DefinitionLines.{has_name}
use Rattle.lexlook_text.proofs.names.has_word.Given as goal

abbrev pub invariant-words : goal.invariant-words
invariant-words l = has_name (words l.text) l.word ≡ has_name (words l.rest) l.word

abbrev pub decreases-words : goal.decreases-words
decreases-words l = length l.rest
