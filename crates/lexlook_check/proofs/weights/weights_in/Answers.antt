use Rattle.std.proofs.Common.{◌∙◌, ℕ, List, ap, map}
use Rattle.lex_semantics.specs.Spec as S
use Rattle.lexspec.specs.RuleViews.{rule_of}
use Rattle.lexspec.specs.Views.{spec_of}
use Rattle.lexlook_check.specs.Weights.{allowed_by, weights_of}
use Rattle.lexlook_check.proofs.weights.weights_in.Goals as goal

pub returns-in-Ok : goal.returns-in-Ok
returns-in-Ok c = (
  spec_of c.in-Ok.spec,
  c.in-Ok.ensures.spells,
  c.weights_of.ensures ∙ ap (λ (n : ℕ). weights_of n (map rule_of c.rules.result.now)) c.allowed_by.ensures ∙ ap (λ (rs : List S.Rule). weights_of (allowed_by c.args.options.limits c.args.limit) rs) c.rules.ensures.rules,
)
