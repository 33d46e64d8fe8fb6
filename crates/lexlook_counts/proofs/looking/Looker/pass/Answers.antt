use Rattle.std.proofs.Common.{refl, subst, sym}
use Rattle.std.proofs.lemmas.Option.{IfSome_then}
use Rattle.lexlook_counts.specs.Costs.{cost_by}
use Rattle.lexlook_counts.specs.Looking.{Holds}
use Rattle.lexlook_counts.proofs.looking.Looker.pass.Goals as goal

pub returns-clause-passed : goal.returns-clause-passed
returns-clause-passed c =
    IfSome_then c.beyond-beyond.result c.beyond-beyond.ensures.looks (λ beyond h given at holds. (
      subst (λ n. Holds given n c.go_on.new.self) c.in-Some.ensures.1 (c.go_on.ensures.holds given at (c.beyond-beyond.ensures.holds given at holds)),
      λ x goes. h given at x (cost_by c.args.token beyond) holds goes refl (sym c.in-Some.ensures.1) refl,
    ))
