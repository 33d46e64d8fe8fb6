use Rattle.std.proofs.Common.{rules, ◌∙◌, ◌&&◌, sym, ap}
use Rattle.lexspec_lines.specs.Lines.{words}
use Rattle.lexspec_lines.specs.DefinitionViews.{are_known}
use Rattle.lexspec_lines.proofs.declarations.with_options.Goals as goal

pub loop-word-preserved : goal.loop-word-preserved
loop-word-preserved c = record {
  known = sym (ap are_known c.in-Some.ensures.words ∙ ap (λ b. b && are_known (words c.in-Some.after.now)) (sym c.is_known.ensures ∙ c.if-not-is_known.false)) ∙ c.loop-word.invariant.known;
  folds = search rules;
}
