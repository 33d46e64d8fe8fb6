use Rattle.std.proofs.lemmas.Grind.{common_steps}
use Rattle.std.proofs.Common.{None, arith}
use Rattle.lex_semantics.specs.Tree.{Star, Repeat}
use Rattle.lexauto_positions.specs.Alike.{Alike}
use Rattle.lexauto_positions.specs.Plans.{plan_of, tree_in}
use Rattle.lexauto_positions.proofs.AlikeLaws.{alike_on, if_ok_by}
use Rattle.lexauto_positions.proofs.SignLaws.{alike_any}
use Rattle.lexauto_positions.proofs.layout.repeat.Goals as goal

pub returns-in-0-None-clause-alike : goal.returns-in-0-None-clause-alike
returns-in-0-None-clause-alike c =
    let own = tree_in (plan_of c.args.part) in
    rw (c.in-0-None.is-0, c.in-0-None.is-1)
    (if_ok_by c.sign_part-in-0-None.result (λ p. Alike (tree_in (plan_of p)) (Star own)) (λ p. Alike (tree_in (plan_of p)) (Repeat own 0 None))
    (λ p h. alike_on (tree_in (plan_of p)) (Star own) (Repeat own 0 None) h (alike_any own)) c.sign_part-in-0-None.ensures.alike)

pub returns-in-1-Some-eq1-clause-alike : goal.returns-in-1-Some-eq1-clause-alike
returns-in-1-Some-eq1-clause-alike = grind (arith, common_steps)
