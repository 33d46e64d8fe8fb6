use Rattle.std.proofs.Common.{◌≡◌, ◌||◌, length}
use Rattle.std.specs.Prelude.{codes}
use Rattle.lexspec_lines.specs.Lines.{words}
use Rattle.lexspec_lines.specs.DefinitionLines.{has_name}
use Rattle.lexspec_lines.specs.DefinitionViews.{are_known}
use Rattle.lexspec_lines.proofs.declarations.with_options.Given as goal

abbrev pub invariant-loop-word : goal.invariant-loop-word
invariant-loop-word l = record {
  known : are_known (words l.rest) ≡ are_known (words l.text);
  folds : (l.folds || has_name (words l.rest) (codes "case-insensitive")) ≡ (l.fold || has_name (words l.text) (codes "case-insensitive"));
}

abbrev pub decreases-loop-word : goal.decreases-loop-word
decreases-loop-word l = length l.rest
