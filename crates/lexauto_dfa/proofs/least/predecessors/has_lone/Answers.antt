use Rattle.std.proofs.Common.{◌≡◌, ℕ, sym, subst}
use Rattle.lexauto_dfa.specs.declared.least.predecessors.Predecessors.{Predecessors}
use Rattle.lexauto_dfa.specs.Arranged.{IsAlone}
use Rattle.lexauto_dfa.specs.Predecessors.{Allows}
use Rattle.lexauto_dfa.proofs.Noting.{alone_in}
use Rattle.lexauto_dfa.proofs.least.predecessors.has_lone.Goals as goal

pub returns-in-None : goal.returns-in-None
returns-in-None c = λ t x a. absurd (subst (λ (p : Predecessors). Allows p x) c.in-None.is a)

pub returns-in-One : goal.returns-in-One
returns-in-One c = λ t x a.
    let same : x ≡ c.in-One.state = subst (λ (p : Predecessors). Allows p x) c.in-One.is a in
    subst (λ (z : ℕ). IsAlone c.args.blocks.now z) (sym same)
    (alone_in c.args.blocks.now c.in-One.state c.requires.arranged (c.requires.below c.in-One.state c.in-One.is) (c.is_alone.ensures t))
