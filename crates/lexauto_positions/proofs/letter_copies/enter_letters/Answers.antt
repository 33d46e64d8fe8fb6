use Rattle.std.proofs.lemmas.Grind.{common_steps}
use Rattle.std.proofs.Common.{◌≡◌, ℕ, Bool, ◌+◌, ◌-◌, ◌<◌, ◌||◌, ◌&&◌, ◌==◌, false, sym, ap, ◌∙◌, arith}
use Rattle.lex_semantics.specs.Active.{contains}
use Rattle.lexauto_positions.specs.Flow.{is_zero, comes}
use Rattle.lexauto_positions.specs.LetterCopies.{letter_exits, letter_enters}
use Rattle.lexauto_positions.proofs.Copies.{passes_step, comes_step, and_false, or_assoc, and_assoc}
use Rattle.lexauto_positions.proofs.letter_copies.enter_letters.Goals as goal

pub loop-k-preserved : goal.loop-k-preserved
loop-k-preserved c =
    let S = contains c.args.last.now in
    let skips = c.args.skips in
    let count = c.args.copies.count in
    let loops = c.args.copies.loops in
    let k = c.loop-k.k in
    let at = c.args.base + k in
    let lt : k < count = c.loop-k-test.true in
    let from : c.from.result ≡ k = c.from.ensures in
    let next : c.args.base + (k + 1) ≡ at + 1 = omega arith in
    let last : c.leave_letter-here.result.left ≡ S at = rw (sym from) c.leave_letter-here.ensures.left in
    let left : c.is_left-left.result ≡ letter_exits skips S at c.loop-k.left = c.is_left-left.ensures ∙ ap (λ (j : Bool). (skips && c.loop-k.left) || j) last in
    let again : c.is_entered.result ≡ (c.loop-k.left || (loops && (is_zero (count - (k + 1)) && S at))) =
    c.is_entered.ensures ∙ ap (λ (j : Bool). c.loop-k.left || (j && c.leave_letter-here.result.left)) c.is_loop-loops.ensures
    ∙ ap (λ (j : Bool). c.loop-k.left || ((loops && is_zero (count - (k + 1))) && j)) last
    ∙ ap (λ (j : Bool). c.loop-k.left || j) (and_assoc loops (is_zero (count - (k + 1))) (S at)) in
    let own : letter_exits skips S at false ≡ S at = ap (λ (j : Bool). j || S at) (and_false skips) in
    let whole : c.is_entered.result ≡ (c.loop-k.left || (loops && (is_zero (count - (k + 1)) && letter_exits skips S at false))) =
    again ∙ ap (λ (j : Bool). c.loop-k.left || (loops && (is_zero (count - (k + 1)) && j))) (sym own) in
    record {
      cursor = rw (next, sym from) c.leave_letter-here.ensures.cursor;
      front = rw (next, sym from) c.in_ok-add_letter.ensures.front;
      flow = rw (next, left, c.saturating_sub-needed.ensures, c.is_out-out.ensures)
          (sym (passes_step (letter_exits skips S) at 1 c.loop-k.needed c.loop-k.out c.loop-k.left count k lt) ∙ c.loop-k.invariant.flow);
      told = λ q.
          let rest = comes (letter_enters q) (letter_exits skips S) loops (at + 1) 1 (letter_exits skips S at c.loop-k.left) (count - (k + 1)) in
          let here = letter_enters q at (c.loop-k.left || (loops && (is_zero (count - (k + 1)) && letter_exits skips S at false))) in
          let added : contains c.add_letter.new.next.items q ≡ (contains c.loop-k.next.items q || here) =
          c.in_ok-add_letter.ensures.next q ∙ ap (λ (n : ℕ). contains c.loop-k.next.items q || (c.is_entered.result && (q == (c.args.base + n)))) from
          ∙ ap (λ (j : Bool). contains c.loop-k.next.items q || letter_enters q at j) whole in
          rw (next, left)
          (ap (λ (j : Bool). j || rest) added
          ∙ or_assoc (contains c.loop-k.next.items q) here rest
          ∙ ap (λ (j : Bool). contains c.loop-k.next.items q || j) (sym (comes_step (letter_enters q) (letter_exits skips S) loops at 1 c.loop-k.left count k lt))
          ∙ c.loop-k.invariant.told q);
    }

pub add_letter-requires-clause-front : goal.add_letter-requires-clause-front
add_letter-requires-clause-front = grind (arith, common_steps)

pub leave_letter-here-requires-clause-cursor : goal.leave_letter-here-requires-clause-cursor
leave_letter-here-requires-clause-cursor = grind (arith, common_steps)

pub loop-k-init : goal.loop-k-init
loop-k-init = grind (arith, common_steps)

pub returns-clause-cursor : goal.returns-clause-cursor
returns-clause-cursor = grind (arith, common_steps)

pub returns-clause-front : goal.returns-clause-front
returns-clause-front = grind (arith, common_steps)

pub returns-clause-left : goal.returns-clause-left
returns-clause-left = grind (arith, common_steps)

pub returns-then-entered-clause-left : goal.returns-then-entered-clause-left
returns-then-entered-clause-left = grind (arith, common_steps)

pub returns-then-entered-clause-next : goal.returns-then-entered-clause-next
returns-then-entered-clause-next = grind (arith, common_steps)
