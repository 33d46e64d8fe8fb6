use Rattle.std.proofs.Common.{◌≡◌, length}
use Rattle.lexspec_lines.specs.Lines.{words}
use Rattle.lexspec_lines.specs.DefinitionLines.{has_name}
use Rattle.lexspec_lines.proofs.lines.has_word.Given as goal

abbrev pub invariant-loop-one : goal.invariant-loop-one
invariant-loop-one l = has_name (words l.rest) l.word ≡ has_name (words l.text) l.word

abbrev pub decreases-loop-one : goal.decreases-loop-one
decreases-loop-one l = length l.rest
