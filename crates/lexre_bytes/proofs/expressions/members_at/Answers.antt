use Rattle.std.proofs.Common.{◌∙◌, Some, ap, sym}
use Rattle.lexre_bytes.proofs.ClassLaws.{first_step, first_refused, member-lt, member_takes, next_step, next_refused, finished, union-lt}
use Rattle.lexre_bytes.proofs.EndLaws.{member_known}
use Rattle.lexre_bytes.proofs.MemberLaws.{union_some}
use Rattle.lexre_bytes.proofs.expressions.members_at.Goals as goal

pub returns-in-Err-clause-set : goal.returns-in-Err-clause-set
returns-in-Err-clause-set c = first_refused c.args.text.now c.in-Err.ensures.set

pub loop-stop-init : goal.loop-stop-init
loop-stop-init c = record {
  so_far = first_step c.args.text.now _ _ c.in-Ok.ensures.set;
  is_set = member-lt c.args.text.now _ _ c.in-Ok.ensures.set;
  some = c.in-Ok.ensures.some;
  known = member_known c.args.text.now _ _ _ c.find_stop-stop.ensures c.in-Ok.ensures.set;
}

pub loop-stop-preserved : goal.loop-stop-preserved
loop-stop-preserved c = record {
  so_far = next_step _ _ c.loop-stop.rest.now _ _ _ c.loop-stop.invariant.so_far (sym c.starts_with.ensures.value ∙ c.loop-stop-test.true) c.in-Ok-member_at.ensures.set c.union-set.ensures;
  is_set = union-lt _ _ _ c.union-set.ensures;
  some = rw c.union-set.ensures (union_some _ _ c.loop-stop.invariant.some);
  known = member_known c.loop-stop.rest.now _ _ _ c.next_stop-stop.ensures c.in-Ok-member_at.ensures.set;
}

pub returns-in-Err-member_at-clause-set : goal.returns-in-Err-member_at-clause-set
returns-in-Err-member_at-clause-set c = next_refused _ c.loop-stop.rest.now _ c.loop-stop.invariant.so_far (sym c.starts_with.ensures.value ∙ c.loop-stop-test.true) c.in-Err-member_at.ensures.set

pub returns-clause-set : goal.returns-clause-set
returns-clause-set c =
    finished _ c.loop-stop.rest.now _ c.loop-stop.invariant.so_far (sym c.starts_with.ensures.value ∙ c.loop-stop-test.false) c.loop-stop.invariant.is_set
    ∙ ap (λ u. Some (c.loop-stop.set, u)) (sym c.skip_first.ensures)

pub loop-stop-smaller : goal.loop-stop-smaller
loop-stop-smaller c = member_takes c.loop-stop.rest.now _ _ c.in-Ok-member_at.ensures.set
