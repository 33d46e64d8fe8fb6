use Rattle.std.proofs.Common.{◌≡◌, ◌∙◌, true, get_or, sym, arith}
use borrow.Author.Count.{below_more}
use Rattle.lexre_bytes.proofs.RunLaws.{ends_at_byte, ends_at_limit, ends_at_end}
use Rattle.lexre_bytes.proofs.fronts.take_up_to.Goals as goal
use Rattle.lexre_bytes.proofs.fronts.take_up_to.Goals.{then-i-limit-via-then-i-limit, then-i-limit-via-else-i-limit+then-not-test}

pub returns-clause-front : goal.returns-clause-front
returns-clause-front g c p h =
    rw (c.split_at-2.ensures.front, c.split_at-2.ensures.back)
    (ends_at_end c.args.limit p c.args.text.now (omega arith) (λ k i. c.loop-i.invariant.2 p h k (omega arith)))

pub returns-then-i-limit-clause-front : goal.returns-then-i-limit-clause-front
returns-then-i-limit-clause-front g c p h =
    rw (c.split_at.ensures.front, c.split_at.ensures.back) (elim c.then-i-limit.branch [
      | then-i-limit-via-then-i-limit w ↦ ends_at_limit c.args.limit p c.args.text.now c.loop-i.i w.if-i-limit.true (omega arith) (c.loop-i.invariant.2 p h)
      | then-i-limit-via-else-i-limit+then-not-test w ↦
          ends_at_byte c.args.limit p c.args.text.now c.loop-i.i (omega arith) (omega arith) (c.loop-i.invariant.2 p h)
          (sym (h (get_or c.args.text.now c.loop-i.i 0) _ (omega (arith, c.type_inv.text c.loop-i.i)) w.test.ensures) ∙ w.if-not-test.true)
    ])

pub loop-i-preserved : goal.loop-i-preserved
loop-i-preserved g c = (
  c.loop-i.invariant.0,
  omega arith,
  λ p h. below_more (λ k. p (get_or c.args.text.now k 0) ≡ true) c.loop-i.i (c.loop-i.invariant.2 p h)
      (sym (h (get_or c.args.text.now c.loop-i.i 0) _ (omega (arith, c.type_inv.text c.loop-i.i)) c.test.ensures) ∙ c.if-not-test.false),
)
