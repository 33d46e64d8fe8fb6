use Rattle.std.proofs.Common.{rules}
use Rattle.lexspec_lines.proofs.DeclaringLaws.{has_number, push_good, push_same, push_taken}
use Rattle.lexspec_lines.proofs.declarations.declare.Goals as goal

pub returns-then-is_some-clause-none : goal.returns-then-is_some-clause-none
returns-then-is_some-clause-none c = λ more good.
    push_taken c.loop-name.conditions.items c.args.exclusive c.in-Some.name.now _ _ _ more c.in-Some.ensures.words c.loop-name.invariant.same
    (has_number c.loop-name.conditions.items c.in-Some.name.now _ (search rules)) good

pub loop-name-preserved : goal.loop-name-preserved
loop-name-preserved c = record {
  good = push_good c.loop-name.conditions.items _ c.in_ok-condition.field-0 _ c.in_ok-push.ensures.items c.in_ok-condition.ensures c.loop-name.invariant.good
      (has_number c.loop-name.conditions.items c.in-Some.name.now _ (search rules)) (search rules);
  same = push_same c.loop-name.conditions.items _ c.in_ok-condition.field-0 c.args.exclusive c.in-Some.name.now _ _ _ c.in_ok-push.ensures.items c.in_ok-condition.ensures c.in-Some.ensures.words c.loop-name.invariant.same;
}
