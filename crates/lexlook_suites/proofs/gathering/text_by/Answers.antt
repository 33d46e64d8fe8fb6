use Rattle.std.proofs.Common.{◌∙◌, ◌++◌, ◌∷◌, [], ℕ, List, ap, subst}
use Rattle.lex_semantics.specs.Text.{IsText}
use Rattle.lexlook_suites.proofs.gathering.text_by.Goals as goal

pub returns : goal.returns
returns c = (
  c.in_ok-path.path.items,
  subst IsText c.as_slice.ensures.value c.in_ok-text.ensures.path,
  c.in_ok-text.ensures.joined ∙ ap (λ (l : List ℕ). c.args.way.now ++ l ++ c.args.byte ∷ []) c.as_slice.ensures.value,
  c.in_ok-path.ensures,
)
