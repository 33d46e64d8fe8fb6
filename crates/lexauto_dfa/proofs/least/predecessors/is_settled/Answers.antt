use Rattle.std.proofs.Common.{ℕ, inl, inr, refl, subst}
use Rattle.std.specs.Prelude.{slice_index}
use Rattle.lexauto_dfa.specs.Predecessors.{Allows, known_of}
use Rattle.lexauto_dfa.proofs.Noting.{below_more}
use Rattle.lexauto_dfa.proofs.least.predecessors.is_settled.Goals as goal

pub loop-target-preserved : goal.loop-target-preserved
loop-target-preserved c = λ t x has allows.
    elim (below_more c.args.targets.now c.loop-target.target-index (slice_index c.args.targets.now c.loop-target.target-index) t refl has) [
      | inl before ↦ c.loop-target.invariant t x before allows
      | inr same ↦ c.has_lone.ensures c.if-not-has_lone.false x (subst (λ (s : ℕ). Allows (known_of c.args.known.now s) x) same allows)
    ]
