use Rattle.std.proofs.Common.{inl, inr, ◌∙◌, ap, subst}
use Rattle.lex_semantics.specs.Text.{Among}
use Rattle.lexscan_matching.proofs.Barrens as Look
use Rattle.lexscan_matching.proofs.back.keep_place.Goals as goal
use Rattle.lexscan_matching.proofs.back.keep_place.Goals.{then-are_stale, else-are_stale}

pub returns : goal.returns
returns c = λ d a. elim (Look.kept_more c.if-are_stale.passed.items _ d (subst (λ xs. Among xs d) c.push.ensures.items a)) [
  | inl old ↦ elim c.if-are_stale.branch [
    | then-are_stale w ↦ absurd (subst (λ xs. Among xs d) (ap (λ v. v.items) w.passed-is ∙ w.clear.ensures) old)
    | else-are_stale w ↦ inl (subst (λ v. Among v.items d) w.passed-is old)
  ]
  | inr new ↦ inr new
]
