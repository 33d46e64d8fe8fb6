use Rattle.std.proofs.Common.{◌≡◌, length}
use Rattle.lexspec_lines.specs.Lines.{words}
use Rattle.lexspec_lines.specs.DefinitionViews.{are_names}
use Rattle.lexspec_lines.proofs.definition.are_names.Given as goal

abbrev pub invariant-loop-word : goal.invariant-loop-word
invariant-loop-word l = are_names (words l.rest) ≡ are_names (words l.text)

abbrev pub decreases-loop-word : goal.decreases-loop-word
decreases-loop-word l = length l.rest
