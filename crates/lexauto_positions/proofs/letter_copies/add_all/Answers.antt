use Rattle.std.proofs.lemmas.Grind.{common_steps}
use Rattle.std.proofs.Common.{◌≡◌, ℕ, Bool, ◌+◌, ◌-◌, ◌<◌, ◌||◌, ◌==◌, true, sym, ap, ◌∙◌, arith}
use Rattle.lex_semantics.specs.Active.{contains}
use Rattle.lexauto_positions.specs.Flow.{comes}
use Rattle.lexauto_positions.specs.LetterCopies.{letter_exits, letter_enters}
use Rattle.lexauto_positions.proofs.Copies.{comes_step, or_assoc}
use Rattle.lexauto_positions.proofs.letter_copies.add_all.Goals as goal

pub loop-k-preserved : goal.loop-k-preserved
loop-k-preserved c =
    let k = c.loop-k.k in
    let at = c.args.base + k in
    let lt : k < c.args.count = c.loop-k-test.true in
    let from : c.from.result ≡ k = c.from.ensures in
    let next : c.args.base + (k + 1) ≡ at + 1 = omega arith in
    record {
      front = rw (next, sym from) c.in_ok-add_letter.ensures.front;
      told = λ S loops q.
          let rest = comes (letter_enters q) (letter_exits true S) loops (at + 1) 1 true (c.args.count - (k + 1)) in
          let added : contains c.add_letter.new.next.items q ≡ (contains c.loop-k.all.items q || (q == at)) =
          c.in_ok-add_letter.ensures.next q ∙ ap (λ (n : ℕ). contains c.loop-k.all.items q || (q == (c.args.base + n))) from in
          rw next
          (ap (λ (j : Bool). j || rest) added
          ∙ or_assoc (contains c.loop-k.all.items q) (q == at) rest
          ∙ ap (λ (j : Bool). contains c.loop-k.all.items q || j) (sym (comes_step (letter_enters q) (letter_exits true S) loops at 1 true c.args.count k lt))
          ∙ c.loop-k.invariant.told S loops q);
    }

pub add_letter-requires-clause-front : goal.add_letter-requires-clause-front
add_letter-requires-clause-front = grind (arith, common_steps)

pub loop-k-init : goal.loop-k-init
loop-k-init = grind (arith, common_steps)

pub returns-clause-front : goal.returns-clause-front
returns-clause-front = grind (arith, common_steps)
