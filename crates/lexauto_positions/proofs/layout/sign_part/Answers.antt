use Rattle.std.proofs.lemmas.Grind.{common_steps}
use Rattle.std.proofs.Common.{rules, ◌≡◌, sym, subst, arith}
use Rattle.lex_semantics.specs.Tree.{Tree, Star}
use Rattle.lexauto_positions.specs.Alike.{Alike}
use Rattle.lexauto_positions.specs.Plans.{plan_of, tree_in}
use Rattle.lexauto_positions.specs.Signs.{signed}
use Rattle.lexauto_positions.specs.declared.layout.SizedPattern.TheFolds as L
use Rattle.lexauto_positions.specs.declared.layout.Operator.TheVariants as S
use Rattle.lexauto_positions.proofs.SignLaws.{one_sign}
use Rattle.lexauto_positions.proofs.layout.sign_part.Goals as goal

pub returns-in-Star-clause-alike : goal.returns-in-Star-clause-alike
returns-in-Star-clause-alike c =
    let own = tree_in (plan_of c.in-Star.item.value) in
    let part = tree_in (plan_of c.args.part) in
    let is : part ≡ Star own = search (rules, L.the_lemmas) in
    let over : tree_in (plan_of c.over.result) ≡ signed c.on.result own = search rules in
    subst (λ (t : Tree). Alike t (signed c.args.sign part)) (sym over)
    (subst (λ (t : Tree). Alike (signed c.on.result own) (signed c.args.sign t)) (sym is)
    (one_sign c.on.result c.args.sign S.Star c.on.ensures.skips c.on.ensures.repeats own))

pub over-requires-in_default-clause-size : goal.over-requires-in_default-clause-size
over-requires-in_default-clause-size = grind (arith, common_steps)

pub over-requires-in_default-clause-sized : goal.over-requires-in_default-clause-sized
over-requires-in_default-clause-sized = grind (arith, common_steps)
