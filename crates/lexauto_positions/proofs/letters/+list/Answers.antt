use Rattle.std.proofs.Common.{rules, arith, ◌≡◌, ◌+◌, ◌-◌, ◌<◌, ◌||◌, ◌++◌, ◌∷◌, [], Bool, List, length, sym, ◌∙◌, ap}
use Rattle.std.proofs.lemmas.Grind.{common_steps}
use Rattle.lex_semantics.specs.Positions.{positions}
use Rattle.lex_semantics.specs.ByteSets.{ByteSet}
use Rattle.lex_semantics.specs.Tree.{Set}
use Rattle.lexauto_positions.specs.declared.layout.SizedPattern.TheFolds as L
use Rattle.lexauto_positions.specs.Letters.{reads_at}
use Rattle.lexauto_positions.specs.Plans.{plan_of, tree_in}
use Rattle.lexauto_positions.specs.RuleFlow.{copies_read, reads}
use Rattle.lexauto_positions.proofs.Copies.{copy_place, or_assoc}
use Rattle.lexauto_positions.proofs.LetterTests.{read_step}
use Rattle.lexauto_positions.proofs.Listing.{reads_letter}
use Rattle.lexauto_positions.proofs.letters.+list.Goals as goal

pub list_copies-loop-k-preserved : goal.list_copies-loop-k-preserved
list_copies-loop-k-preserved t c =
    let tree = tree_in (plan_of c.args.inner.now) in
    let count = c.args.count in
    let k = c.loop-k.k in
    let lt : k < count = c.loop-k-test.true in
    let here = length c.loop-k.letters.items in
    let after = c.in_ok-list.ensures.count in
    record {
      count = rw after (sym (copy_place here count k (positions tree) lt) ∙ c.loop-k.invariant.count);
      told = λ b q.
          let one = reads tree b q in
          let rest = copies_read one (here + positions tree) (positions tree) (count - (k + 1)) in
          rw after
          (ap (λ (j : Bool). j || rest) (c.in_ok-list.ensures.letters b q)
          ∙ or_assoc (reads_at c.loop-k.letters.items b q 0) (one here) rest
          ∙ ap (λ (j : Bool). reads_at c.loop-k.letters.items b q 0 || j) (sym (read_step one here (positions tree) count k lt))
          ∙ c.loop-k.invariant.told b q);
    }

pub list-returns-in_ok-push-in-Letter-clause-letters : goal.list-returns-in_ok-push-in-Letter-clause-letters
list-returns-in_ok-push-in-Letter-clause-letters t c = λ b q.
    let is : tree_in (plan_of c.args.part.now) ≡ Set c.in-Letter.set = search (rules, L.the_lemmas) in
    let more : c.push.new.self.items ≡ c.args.letters.now.items ++ c.in-Letter.set ∷ [] = c.in_ok-push-in-Letter.ensures.items in
    ap (λ (xs : List ByteSet). reads_at xs b q 0) more
    ∙ reads_letter c.args.letters.now.items c.in-Letter.set (tree_in (plan_of c.args.part.now)) is b q

pub list_each-loop-part-preserved : goal.list_each-loop-part-preserved
list_each-loop-part-preserved t c = record {
  count = grind (arith, common_steps, c.loop-part.invariant.count);
  told = λ b q. grind (arith, common_steps, c.loop-part.invariant.told b q, c.in_ok-list.ensures.letters b q);
}

pub list_copies-returns-clause-count : goal.list_copies-returns-clause-count
list_copies-returns-clause-count = grind (arith, common_steps)

pub list_copies-returns-clause-letters : goal.list_copies-returns-clause-letters
list_copies-returns-clause-letters = grind (arith, common_steps)

pub list_each-returns-clause-count : goal.list_each-returns-clause-count
list_each-returns-clause-count = grind (arith, common_steps)

pub list_each-returns-clause-letters : goal.list_each-returns-clause-letters
list_each-returns-clause-letters = grind (arith, common_steps)
