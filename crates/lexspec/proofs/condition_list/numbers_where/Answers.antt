use Rattle.std.proofs.Common.{arith, ◌++◌, ◌∷◌, [], ◌+◌, ◌-◌, ◌≡◌, true, false, sym, ap, ◌∙◌, append_assoc}
use Rattle.lex_semantics.specs.Text.{listed}
use Rattle.lex_semantics.proofs.Listed.{listed_is}
use Rattle.lexspec.proofs.ListedLaws.{number_here, number_not}
use Rattle.lexspec.proofs.condition_list.numbers_where.Goals as goal
use Rattle.lexspec.proofs.condition_list.numbers_where.Goals.{then-flags-number+in_ok-push, else-flags-number}

pub loop-number-init : goal.loop-number-init
loop-number-init c = λ test is. rw c.new-numbers.ensures.items (ap (listed test 0) (let all : c.args.count - 0 ≡ c.args.count = omega arith in all) ∙ sym (listed_is test 0 c.args.count))

pub loop-number-preserved : goal.loop-number-preserved
loop-number-preserved c = λ test is.
    let k = c.loop-number.number in
    let later = listed test (k + 1) (c.args.count - (k + 1)) in
    elim c.if-flags-number.branch [
      | then-flags-number+in_ok-push w ↦
          let pass : test k ≡ true = sym (is k (omega arith)) ∙ w.if-flags-number.true in
          rw (w.numbers-is) (ap (λ z. z ++ later) w.in_ok-push.ensures.items ∙ append_assoc c.loop-number.numbers.items (k ∷ []) later
          ∙ ap (λ z. c.loop-number.numbers.items ++ z) (sym (number_here k c.args.count test c.loop-number-test.true pass)) ∙ c.loop-number.invariant test is)
      | else-flags-number w ↦
          let pass : test k ≡ false = sym (is k (omega arith)) ∙ w.if-flags-number.false in
          rw (w.numbers-is) (ap (λ z. c.loop-number.numbers.items ++ z) (sym (number_not k c.args.count test c.loop-number-test.true pass)) ∙ c.loop-number.invariant test is)
    ]
