use Rattle.std.proofs.Common.{Bool, true, sym, subst}
use Rattle.lex_semantics.specs.Tree.{trees, Alt}
use Rattle.lexauto_positions.specs.Alike.{Alike, choice_of}
use Rattle.lexauto_positions.specs.Signs.{signed}
use Rattle.lexauto_positions.specs.Plans.{plan_of, tree_in, trees_laid}
use Rattle.lexauto_positions.specs.declared.layout.Operator.TheVariants as S
use Rattle.lexauto_positions.proofs.AlikeLaws.{alike_on, if_ok_by}
use Rattle.lexauto_positions.proofs.SignLaws.{alike_signed}
use Rattle.lexauto_positions.proofs.layout.choice.Goals as goal

pub returns-then-row-clause-alike : goal.returns-then-row-clause-alike
returns-then-row-clause-alike c =
    let own = tree_in (plan_of c.one_of-part.result) in
    let laid = trees (trees_laid c.args.row.parts.items) in
    if_ok_by c.sign_part.result (λ p. Alike (tree_in (plan_of p)) (signed S.Optional own)) (λ p. Alike (tree_in (plan_of p)) (choice_of c.args.row.has_empty laid))
    (λ p h. subst (λ (o : Bool). Alike (tree_in (plan_of p)) (choice_of o laid)) (sym c.if-row.true)
    (alike_on (tree_in (plan_of p)) (signed S.Optional own) (choice_of true laid) h (alike_signed S.Optional own (Alt laid) c.one_of-part.ensures.alike)))
    c.sign_part.ensures.alike
