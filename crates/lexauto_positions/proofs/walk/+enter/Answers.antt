use Rattle.std.proofs.lemmas.Grind.{common_steps}
use Rattle.std.proofs.Common.{◌≡◌, ℕ, Bool, ◌+◌, ◌-◌, ◌<◌, ◌≤◌, ◌⊎◌, ◌||◌, ◌&&◌, false, length, sym, ap, subst, ◌∙◌, arith}
use Rattle.std.specs.Prelude.{slice_index}
use Rattle.lex_semantics.specs.Active.{contains}
use Rattle.lex_semantics.specs.Positions.{positions}
use Rattle.lexauto_positions.specs.Flow.{is_zero, comes, exits, enters}
use Rattle.lexauto_positions.specs.Plans.{plan_of, tree_in}
use Rattle.lexauto_positions.proofs.Copies.{passes_step, comes_step, copy_place, or_false, and_false, or_assoc, and_assoc, left_before, left_here, not_left}
use Rattle.lexauto_positions.proofs.CursorLaws.{quiet_left, quiet_next}
use Rattle.lexauto_positions.proofs.AlikeLaws.{if_ok_by}
use Rattle.lexauto_positions.proofs.LetterCopyLaws.{letters_pass, letters_come}
use Rattle.lexauto_positions.specs.LetterCopies.{letter_exits, letter_enters}
use Rattle.lexauto_positions.specs.Flow.{passes}
use Rattle.lexauto_positions.proofs.walk.+enter.Goals.{enter_copies-then-out, enter_copies-else-out+then-needed-eq0, enter_copies-else-out+else-needed-eq0}
use Rattle.lexauto_positions.proofs.walk.+enter.Goals as goal

pub enter-returns-then-is_quiet-clause-left : goal.enter-returns-then-is_quiet-clause-left
enter-returns-then-is_quiet-clause-left t c =
    let tree = tree_in (plan_of c.args.part.now) in
    let last = c.args.last.now in
    let quiet = subst (λ (n : ℕ). (length last ≤ c.args.at) ⊎ (c.args.base + n ≤ slice_index last c.args.at)) c.size.ensures (c.is_quiet.ensures.yes c.if-is_quiet.true) in
    sym (ap (exits tree (contains last) c.args.base) c.if-not-entered.true ∙ quiet_left last c.args.at c.args.base c.requires.cursor tree quiet)

pub enter-returns-then-is_quiet-clause-next : goal.enter-returns-then-is_quiet-clause-next
enter-returns-then-is_quiet-clause-next t c = λ q.
    let tree = tree_in (plan_of c.args.part.now) in
    let last = c.args.last.now in
    let quiet = subst (λ (n : ℕ). (length last ≤ c.args.at) ⊎ (c.args.base + n ≤ slice_index last c.args.at)) c.size.ensures (c.is_quiet.ensures.yes c.if-is_quiet.true) in
    let none : enters tree (contains last) q c.args.base c.args.entered ≡ false = ap (enters tree (contains last) q c.args.base) c.if-not-entered.true ∙ quiet_next last c.args.at c.args.base c.requires.cursor tree quiet q in
    sym (ap (λ (j : Bool). contains c.args.next.now.items q || j) none ∙ or_false (contains c.args.next.now.items q))

pub enter_part-returns-then-is_quiet-clause-left : goal.enter_part-returns-then-is_quiet-clause-left
enter_part-returns-then-is_quiet-clause-left t c =
    let tree = tree_in (plan_of c.args.part.now) in
    let last = c.args.last.now in
    let quiet = subst (λ (n : ℕ). (length last ≤ c.args.at) ⊎ (c.args.base + n ≤ slice_index last c.args.at)) c.size.ensures (c.is_quiet.ensures.yes c.if-is_quiet.true) in
    sym (ap (exits tree (contains last) c.args.base) c.if-not-entered.true ∙ quiet_left last c.args.at c.args.base c.requires.cursor tree quiet)

pub enter_part-returns-then-is_quiet-clause-next : goal.enter_part-returns-then-is_quiet-clause-next
enter_part-returns-then-is_quiet-clause-next t c = λ q.
    let tree = tree_in (plan_of c.args.part.now) in
    let last = c.args.last.now in
    let quiet = subst (λ (n : ℕ). (length last ≤ c.args.at) ⊎ (c.args.base + n ≤ slice_index last c.args.at)) c.size.ensures (c.is_quiet.ensures.yes c.if-is_quiet.true) in
    let none : enters tree (contains last) q c.args.base c.args.entered ≡ false = ap (enters tree (contains last) q c.args.base) c.if-not-entered.true ∙ quiet_next last c.args.at c.args.base c.requires.cursor tree quiet q in
    sym (ap (λ (j : Bool). contains c.args.next.now.items q || j) none ∙ or_false (contains c.args.next.now.items q))

pub enter_copy-returns-then-is_quiet-clause-left : goal.enter_copy-returns-then-is_quiet-clause-left
enter_copy-returns-then-is_quiet-clause-left t c =
    let tree = tree_in (plan_of c.args.inner.now) in
    let last = c.args.last.now in
    let quiet = subst (λ (n : ℕ). (length last ≤ c.args.at) ⊎ (c.args.base + n ≤ slice_index last c.args.at)) c.size.ensures (c.is_quiet.ensures.yes c.if-is_quiet.true) in
    sym (ap (exits tree (contains last) c.args.base) c.if-not-entered.true ∙ quiet_left last c.args.at c.args.base c.requires.cursor tree quiet)

pub enter_copy-returns-then-is_quiet-clause-next : goal.enter_copy-returns-then-is_quiet-clause-next
enter_copy-returns-then-is_quiet-clause-next t c = λ q.
    let tree = tree_in (plan_of c.args.inner.now) in
    let last = c.args.last.now in
    let quiet = subst (λ (n : ℕ). (length last ≤ c.args.at) ⊎ (c.args.base + n ≤ slice_index last c.args.at)) c.size.ensures (c.is_quiet.ensures.yes c.if-is_quiet.true) in
    let again = exits tree (contains last) c.args.base false in
    let stays : (c.args.entered || (c.args.loops && again)) ≡ false =
    ap (λ (j : Bool). j || (c.args.loops && again)) c.if-not-entered.true ∙ ap (λ (j : Bool). c.args.loops && j) (quiet_left last c.args.at c.args.base c.requires.cursor tree quiet) ∙ and_false c.args.loops in
    let none : enters tree (contains last) q c.args.base (c.args.entered || (c.args.loops && again)) ≡ false = ap (enters tree (contains last) q c.args.base) stays ∙ quiet_next last c.args.at c.args.base c.requires.cursor tree quiet q in
    sym (ap (λ (j : Bool). contains c.args.next.now.items q || j) none ∙ or_false (contains c.args.next.now.items q))

pub enter_copies-returns-in-Some-clause-left : goal.enter_copies-returns-in-Some-clause-left
enter_copies-returns-in-Some-clause-left t c =
    let tree = tree_in (plan_of c.args.inner.now) in
    let S = contains c.args.last.now in
    let skips = c.in-Some.skips in
    let same = letters_pass tree skips c.in-Some.ensures.size c.in-Some.ensures.left S c.args.base c.args.entered c.args.copies.count c.args.copies.least false in
    if_ok_by c.enter_letters.result (λ p. p.left ≡ passes (letter_exits skips S) c.args.base 1 c.args.copies.least false c.args.entered c.args.copies.count)
    (λ p. p.left ≡ passes (exits tree S) c.args.base (positions tree) c.args.copies.least false c.args.entered c.args.copies.count)
    (λ p h. h ∙ same) c.enter_letters.ensures.left

pub enter_copies-returns-in-Some-clause-next : goal.enter_copies-returns-in-Some-clause-next
enter_copies-returns-in-Some-clause-next t c =
    let tree = tree_in (plan_of c.args.inner.now) in
    let S = contains c.args.last.now in
    let skips = c.in-Some.skips in
    let before = c.args.next.now.items in
    let after = c.enter_letters.new.next.items in
    let loops = c.args.copies.loops in
    let count = c.args.copies.count in
    if_ok_by c.enter_letters.result (λ p. (q : ℕ) → contains after q ≡ (contains before q || comes (letter_enters q) (letter_exits skips S) loops c.args.base 1 c.args.entered count))
    (λ p. (q : ℕ) → contains after q ≡ (contains before q || comes (enters tree S q) (exits tree S) loops c.args.base (positions tree) c.args.entered count))
    (λ p h q. h q ∙ ap (λ (j : Bool). contains before q || j)
    (letters_come tree skips c.in-Some.ensures.size c.in-Some.ensures.left S c.args.base c.args.entered count q loops (c.in-Some.ensures.next S q)))
    c.enter_letters.ensures.next

pub enter_copies-loop-k-preserved : goal.enter_copies-loop-k-preserved
enter_copies-loop-k-preserved t c =
    let tree = tree_in (plan_of c.args.inner.now) in
    let S = contains c.args.last.now in
    let count = c.args.copies.count in
    let k = c.loop-k.k in
    let step : c.size-step.result ≡ positions tree = c.size-step.ensures in
    let lt : k < count = c.loop-k-test.true in
    let own : Bool = exits tree S c.loop-k.after false in
    let out : c.if-out.out ≡ (c.loop-k.out || (is_zero c.loop-k.needed && c.loop-k.left)) = elim c.if-out.branch [
      | enter_copies-then-out w ↦ left_before c.loop-k.out c.loop-k.left c.if-out.out c.loop-k.needed w.if-out.true (w.out-is ∙ w.if-out.true)
      | enter_copies-else-out+then-needed-eq0 w ↦ left_here c.loop-k.out c.loop-k.left c.if-out.out c.loop-k.needed w.if-out.false w.if-needed-eq0.true w.out-is
      | enter_copies-else-out+else-needed-eq0 w ↦ not_left c.loop-k.out c.loop-k.left c.if-out.out c.loop-k.needed w.if-out.false w.out-is w.if-needed-eq0.false
    ] in
    let whole : (c.loop-k.left || (c.is_loop-loops.result && own)) ≡ (c.loop-k.left || (c.args.copies.loops && (is_zero (count - (k + 1)) && own))) =
    ap (λ (j : Bool). c.loop-k.left || j) (ap (λ (j : Bool). j && own) c.is_loop-loops.ensures ∙ and_assoc c.args.copies.loops (is_zero (count - (k + 1))) own) in
    record {
      place = rw step (sym (copy_place c.loop-k.after count k (positions tree) lt) ∙ c.loop-k.invariant.place);
      cursor = rw step c.in_ok-passed.ensures.cursor;
      front = rw step c.in_ok-passed.ensures.front;
      flow = rw (step, c.in_ok-passed.ensures.left, c.saturating_sub-needed.ensures, out)
          (sym (passes_step (exits tree S) c.loop-k.after (positions tree) c.loop-k.needed c.loop-k.out c.loop-k.left count k lt) ∙ c.loop-k.invariant.flow);
      told = λ q.
          let rest = comes (enters tree S q) (exits tree S) c.args.copies.loops (c.loop-k.after + positions tree) (positions tree) (exits tree S c.loop-k.after c.loop-k.left) (count - (k + 1)) in
          rw (step, c.in_ok-passed.ensures.left)
          (ap (λ (j : Bool). j || rest) (c.in_ok-passed.ensures.next q ∙ ap (λ (h : Bool). contains c.loop-k.next.items q || enters tree S q c.loop-k.after h) whole)
          ∙ or_assoc (contains c.loop-k.next.items q) (enters tree S q c.loop-k.after (c.loop-k.left || (c.args.copies.loops && (is_zero (count - (k + 1)) && own)))) rest
          ∙ ap (λ (j : Bool). contains c.loop-k.next.items q || j) (sym (comes_step (enters tree S q) (exits tree S) c.args.copies.loops c.loop-k.after (positions tree) c.loop-k.left count k lt))
          ∙ c.loop-k.invariant.told q);
    }

pub enter-enter_letter-requires-clause-cursor : goal.enter-enter_letter-requires-clause-cursor
enter-enter_letter-requires-clause-cursor = grind (arith, common_steps)

pub enter-leave-again-requires-clause-cursor : goal.enter-leave-again-requires-clause-cursor
enter-leave-again-requires-clause-cursor = grind (arith, common_steps)

pub enter-returns-in-Nothing-clause-front : goal.enter-returns-in-Nothing-clause-front
enter-returns-in-Nothing-clause-front = grind (arith, common_steps)

pub enter-returns-then-is_quiet-clause-front : goal.enter-returns-then-is_quiet-clause-front
enter-returns-then-is_quiet-clause-front = grind (arith, common_steps)

pub enter_copies-enter_copy-requires : goal.enter_copies-enter_copy-requires
enter_copies-enter_copy-requires = grind (arith, common_steps)

pub enter_copies-enter_letters-requires-clause-cursor : goal.enter_copies-enter_letters-requires-clause-cursor
enter_copies-enter_letters-requires-clause-cursor = grind (arith, common_steps)

pub enter_copies-enter_letters-requires-clause-few : goal.enter_copies-enter_letters-requires-clause-few
enter_copies-enter_letters-requires-clause-few = grind (arith, common_steps)

pub enter_copies-loop-k-init : goal.enter_copies-loop-k-init
enter_copies-loop-k-init = grind (arith, common_steps)

pub enter_copies-overflow_add-after : goal.enter_copies-overflow_add-after
enter_copies-overflow_add-after = grind (arith, common_steps)

pub enter_copies-returns-else-needed-eq0-2-clause-cursor : goal.enter_copies-returns-else-needed-eq0-2-clause-cursor
enter_copies-returns-else-needed-eq0-2-clause-cursor = grind (arith, common_steps)

pub enter_copies-returns-else-needed-eq0-2-clause-front : goal.enter_copies-returns-else-needed-eq0-2-clause-front
enter_copies-returns-else-needed-eq0-2-clause-front = grind (arith, common_steps)

pub enter_copies-returns-else-needed-eq0-2-clause-next : goal.enter_copies-returns-else-needed-eq0-2-clause-next
enter_copies-returns-else-needed-eq0-2-clause-next = grind (arith, common_steps)

pub enter_copies-returns-in-Some-clause-cursor : goal.enter_copies-returns-in-Some-clause-cursor
enter_copies-returns-in-Some-clause-cursor = grind (arith, common_steps)

pub enter_copies-returns-in-Some-clause-front : goal.enter_copies-returns-in-Some-clause-front
enter_copies-returns-in-Some-clause-front = grind (arith, common_steps)

pub enter_copies-returns-then-needed-eq0-2-clause-cursor : goal.enter_copies-returns-then-needed-eq0-2-clause-cursor
enter_copies-returns-then-needed-eq0-2-clause-cursor = grind (arith, common_steps)

pub enter_copies-returns-then-needed-eq0-2-clause-front : goal.enter_copies-returns-then-needed-eq0-2-clause-front
enter_copies-returns-then-needed-eq0-2-clause-front = grind (arith, common_steps)

pub enter_copies-returns-then-needed-eq0-2-clause-next : goal.enter_copies-returns-then-needed-eq0-2-clause-next
enter_copies-returns-then-needed-eq0-2-clause-next = grind (arith, common_steps)

pub enter_copies-returns-then-out-2-clause-cursor : goal.enter_copies-returns-then-out-2-clause-cursor
enter_copies-returns-then-out-2-clause-cursor = grind (arith, common_steps)

pub enter_copies-returns-then-out-2-clause-front : goal.enter_copies-returns-then-out-2-clause-front
enter_copies-returns-then-out-2-clause-front = grind (arith, common_steps)

pub enter_copies-returns-then-out-2-clause-next : goal.enter_copies-returns-then-out-2-clause-next
enter_copies-returns-then-out-2-clause-next = grind (arith, common_steps)

pub enter_copy-enter-requires : goal.enter_copy-enter-requires
enter_copy-enter-requires = grind (arith, common_steps)

pub enter_copy-enter-requires-2 : goal.enter_copy-enter-requires-2
enter_copy-enter-requires-2 = grind (arith, common_steps)

pub enter_copy-returns-clause-cursor : goal.enter_copy-returns-clause-cursor
enter_copy-returns-clause-cursor = grind (arith, common_steps)

pub enter_copy-returns-clause-next : goal.enter_copy-returns-clause-next
enter_copy-returns-clause-next = grind (arith, common_steps)

pub enter_copy-returns-then-is_quiet-clause-front : goal.enter_copy-returns-then-is_quiet-clause-front
enter_copy-returns-then-is_quiet-clause-front = grind (arith, common_steps)

pub enter_copy-returns-then-not-loops-clause-next : goal.enter_copy-returns-then-not-loops-clause-next
enter_copy-returns-then-not-loops-clause-next = grind (arith, common_steps)

pub enter_each-loop-part-preserved : goal.enter_each-loop-part-preserved
enter_each-loop-part-preserved = grind (arith, common_steps)

pub enter_each-returns-clause-cursor : goal.enter_each-returns-clause-cursor
enter_each-returns-clause-cursor = grind (arith, common_steps)

pub enter_each-returns-clause-front : goal.enter_each-returns-clause-front
enter_each-returns-clause-front = grind (arith, common_steps)

pub enter_each-returns-clause-left : goal.enter_each-returns-clause-left
enter_each-returns-clause-left = grind (arith, common_steps)

pub enter_each-returns-clause-next : goal.enter_each-returns-clause-next
enter_each-returns-clause-next = grind (arith, common_steps)

pub enter_each-size-requires : goal.enter_each-size-requires
enter_each-size-requires = grind (arith, common_steps)

pub enter_some-loop-part-preserved : goal.enter_some-loop-part-preserved
enter_some-loop-part-preserved = grind (arith, common_steps)

pub enter_some-returns-clause-cursor : goal.enter_some-returns-clause-cursor
enter_some-returns-clause-cursor = grind (arith, common_steps)

pub enter_some-returns-clause-front : goal.enter_some-returns-clause-front
enter_some-returns-clause-front = grind (arith, common_steps)

pub enter_some-returns-clause-left : goal.enter_some-returns-clause-left
enter_some-returns-clause-left = grind (arith, common_steps)

pub enter_some-returns-clause-next : goal.enter_some-returns-clause-next
enter_some-returns-clause-next = grind (arith, common_steps)

pub enter_some-size-requires : goal.enter_some-size-requires
enter_some-size-requires = grind (arith, common_steps)

pub enter_part-returns-then-is_quiet-clause-front : goal.enter_part-returns-then-is_quiet-clause-front
enter_part-returns-then-is_quiet-clause-front = grind (arith, common_steps)
