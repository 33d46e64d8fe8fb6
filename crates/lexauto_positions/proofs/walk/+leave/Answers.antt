use Rattle.std.proofs.lemmas.Grind.{common_steps}
use Rattle.std.proofs.Common.{◌≡◌, ℕ, ◌+◌, ◌<◌, ◌≤◌, ◌⊎◌, ◌||◌, ◌&&◌, length, sym, ap, subst, ◌∙◌, arith}
use Rattle.std.specs.Prelude.{slice_index}
use Rattle.lex_semantics.specs.Active.{contains}
use Rattle.lex_semantics.specs.Positions.{positions}
use Rattle.lexauto_positions.specs.Flow.{is_zero, exits}
use Rattle.lexauto_positions.specs.Plans.{plan_of, tree_in}
use Rattle.lexauto_positions.proofs.Copies.{passes_step, copy_place, left_before, left_here, not_left}
use Rattle.lexauto_positions.proofs.CursorLaws.{quiet_left}
use Rattle.lexauto_positions.proofs.walk.+leave.Goals.{leave_copies-then-out, leave_copies-else-out+then-needed-eq0, leave_copies-else-out+else-needed-eq0}
use Rattle.lexauto_positions.proofs.walk.+leave.Goals as goal

pub leave-returns-then-is_quiet-clause-left : goal.leave-returns-then-is_quiet-clause-left
leave-returns-then-is_quiet-clause-left t c =
    let tree = tree_in (plan_of c.args.part.now) in
    let last = c.args.last.now in
    let quiet = subst (λ (n : ℕ). (length last ≤ c.args.at) ⊎ (c.args.base + n ≤ slice_index last c.args.at)) c.size.ensures (c.is_quiet.ensures.yes c.if-is_quiet.true) in
    sym (ap (exits tree (contains last) c.args.base) c.if-not-entered.true ∙ quiet_left last c.args.at c.args.base c.requires.cursor tree quiet)

pub leave_copies-loop-k-preserved : goal.leave_copies-loop-k-preserved
leave_copies-loop-k-preserved t c =
    let tree = tree_in (plan_of c.args.inner.now) in
    let S = contains c.args.last.now in
    let step : c.size-step.result ≡ positions tree = c.size-step.ensures in
    let lt : c.loop-k.k < c.args.copies.count = c.loop-k-test.true in
    let out : c.if-out.out ≡ (c.loop-k.out || (is_zero c.loop-k.needed && c.loop-k.left)) = elim c.if-out.branch [
      | leave_copies-then-out w ↦ left_before c.loop-k.out c.loop-k.left c.if-out.out c.loop-k.needed w.if-out.true (w.out-is ∙ w.if-out.true)
      | leave_copies-else-out+then-needed-eq0 w ↦ left_here c.loop-k.out c.loop-k.left c.if-out.out c.loop-k.needed w.if-out.false w.if-needed-eq0.true w.out-is
      | leave_copies-else-out+else-needed-eq0 w ↦ not_left c.loop-k.out c.loop-k.left c.if-out.out c.loop-k.needed w.if-out.false w.out-is w.if-needed-eq0.false
    ] in
    record {
      place = rw step (sym (copy_place c.loop-k.after c.args.copies.count c.loop-k.k (positions tree) lt) ∙ c.loop-k.invariant.place);
      cursor = rw step c.leave-passed.ensures.cursor;
      flow = rw (step, c.leave-passed.ensures.left, c.saturating_sub-needed.ensures, out)
          (sym (passes_step (exits tree S) c.loop-k.after (positions tree) c.loop-k.needed c.loop-k.out c.loop-k.left c.args.copies.count c.loop-k.k lt) ∙ c.loop-k.invariant.flow);
    }

pub leave-leave_letter-requires-clause-cursor : goal.leave-leave_letter-requires-clause-cursor
leave-leave_letter-requires-clause-cursor = grind (arith, common_steps)

pub leave_copies-leave-passed-requires : goal.leave_copies-leave-passed-requires
leave_copies-leave-passed-requires = grind (arith, common_steps)

pub leave_copies-returns-else-needed-eq0-2-clause-cursor : goal.leave_copies-returns-else-needed-eq0-2-clause-cursor
leave_copies-returns-else-needed-eq0-2-clause-cursor = grind (arith, common_steps)

pub leave_copies-returns-then-needed-eq0-2-clause-cursor : goal.leave_copies-returns-then-needed-eq0-2-clause-cursor
leave_copies-returns-then-needed-eq0-2-clause-cursor = grind (arith, common_steps)

pub leave_copies-returns-then-out-2-clause-cursor : goal.leave_copies-returns-then-out-2-clause-cursor
leave_copies-returns-then-out-2-clause-cursor = grind (arith, common_steps)

pub leave_each-loop-part-preserved : goal.leave_each-loop-part-preserved
leave_each-loop-part-preserved = grind (arith, common_steps)

pub leave_each-returns-clause-cursor : goal.leave_each-returns-clause-cursor
leave_each-returns-clause-cursor = grind (arith, common_steps)

pub leave_each-returns-clause-left : goal.leave_each-returns-clause-left
leave_each-returns-clause-left = grind (arith, common_steps)

pub leave_each-size-requires : goal.leave_each-size-requires
leave_each-size-requires = grind (arith, common_steps)

pub leave_some-loop-part-preserved : goal.leave_some-loop-part-preserved
leave_some-loop-part-preserved = grind (arith, common_steps)

pub leave_some-returns-clause-cursor : goal.leave_some-returns-clause-cursor
leave_some-returns-clause-cursor = grind (arith, common_steps)

pub leave_some-returns-clause-left : goal.leave_some-returns-clause-left
leave_some-returns-clause-left = grind (arith, common_steps)

pub leave_some-size-requires : goal.leave_some-size-requires
leave_some-size-requires = grind (arith, common_steps)
