use Rattle.std.proofs.Common.{rules, ◌≡◌, List, map, sym, subst}
use Rattle.lex_semantics.specs.Tree.{Trees, trees, Cat}
use Rattle.lexauto_positions.specs.Alike.{Alike}
use Rattle.lexauto_positions.specs.Plans.{plan_of, plans, trees_in, trees_laid}
use Rattle.lexauto_positions.specs.declared.layout.SizedPattern.{SizedPattern}
use Rattle.lexauto_positions.specs.declared.layout.SizedPattern.TheFolds as L
use Rattle.lexauto_positions.proofs.AlikeLaws.{alike_self, laid_are}
use Rattle.lexauto_positions.proofs.layout.series.Goals as goal

pub returns-in-None-clause-alike : goal.returns-in-None-clause-alike
returns-in-None-clause-alike c =
    let all = c.args.row.parts.items in
    let laid = Cat (trees (trees_laid all)) in
    let same : c.only.new.parts.items ≡ all = c.in-None.ensures.other in
    let a : Alike (Cat (trees_in (plans (map plan_of c.only.new.parts.items)))) laid =
    subst (λ (ps : List SizedPattern). Alike (Cat (trees_in (plans (map plan_of ps)))) laid) (sym same)
    (subst (λ (ts : Trees). Alike (Cat ts) laid) (laid_are all) (alike_self laid)) in
    search (rules, L.the_lemmas, a)
