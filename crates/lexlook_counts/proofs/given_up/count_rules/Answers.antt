use Rattle.std.proofs.Common.{◌≡◌, ◌∙◌, ◌+◌, ℕ, [], ◌∷◌, ◌++◌, List, Some, ap, drop, get_or, refl, subst, sym, arith, append-nil}
use Rattle.std.proofs.Math.ListN.{drop_of_length-le}
use Rattle.lex_semantics.specs.Machine.{Machine, rules_of_machine}
use Rattle.lex_semantics.specs.PlainMachine.{match_of}
use Rattle.lexlook_counts.specs.Descending.{GoesOnWith, matches_at}
use Rattle.lexlook_counts.specs.GivenUp.{given_up}
use Rattle.lexlook_counts.proofs.Giving.{by_equal, then_more}
use Rattle.lexlook_counts.proofs.Passing.{all_passed, among_at, at_taken, its_rule, next_rule, one_taken, past_given, past_none}
use Rattle.lexlook_counts.proofs.given_up.count_rules.Goals as goal
use Rattle.lexlook_counts.proofs.given_up.count_rules.Goals.{in-None, in-Some-true}

pub gives_up_at-requires : goal.gives_up_at-requires
gives_up_at-requires g c = c.requires _ (among_at c.args.rules.now c.loop-rule.rule-index c.loop-rule-test.true)

pub returns-in-Some-false : goal.returns-in-Some-false
returns-in-Some-false g c =
    let M : Machine = g.M.Machine.machine c.args.machine.now in
    let R = rules_of_machine M in
    let n = c.args.length in
    let k = c.loop-rule.rule-index in
    let i = get_or c.args.rules.now k 0 in
    let all = matches_at M n c.args.rules.now in
    let h = c.loop-rule.invariant in
    let taken = at_taken R all (matches_at M n (drop k c.args.rules.now)) (matches_at M n (drop (k + 1) c.args.rules.now)) h.0 h.2 (match_of M n i) (next_rule M n k i c.args.rules.now c.loop-rule-test.true refl)
    (sym c.gives_up_at.ensures ∙ c.in-Some-false.is ∙ ap Some c.in-Some-false.field-0-test) in
    let told = one_taken R all h.0 taken in
    record {
      counted = by_equal _ _ h.0 (given_up R all) (sym told) h.1;
      follows = λ rest. taken rest ∙ sym told ∙ sym (append-nil (given_up R all));
    }

pub loop-rule-preserved : goal.loop-rule-preserved
loop-rule-preserved g c =
    let M : Machine = g.M.Machine.machine c.args.machine.now in
    let R = rules_of_machine M in
    let n = c.args.length in
    let k = c.loop-rule.rule-index in
    let i = get_or c.args.rules.now k 0 in
    let all = matches_at M n c.args.rules.now in
    let left = matches_at M n (drop k c.args.rules.now) in
    let next = matches_at M n (drop (k + 1) c.args.rules.now) in
    let step = next_rule M n k i c.args.rules.now c.loop-rule-test.true refl in
    let h = c.loop-rule.invariant in
    elim c.match-gives_up_at.branch [
      | in-None w ↦ rw w.counts-is (h.0, h.1, past_none R all left next h.0 h.2 (match_of M n i) step (sym c.gives_up_at.ensures ∙ w.in-None.is))
      | in-Some-true w ↦
          rw w.counts-is (
            h.0 ++ i ∷ [],
            then_more _ _ _ h.0 (i ∷ []) h.1 w.count_once.ensures,
            past_given R all left next h.0 h.2 (match_of M n i) i step (its_rule M n i) (sym c.gives_up_at.ensures ∙ w.in-Some-true.is ∙ ap Some w.in-Some-true.field-0-test),
          )
    ]

pub returns : goal.returns
returns g c =
    let M : Machine = g.M.Machine.machine c.args.machine.now in
    let R = rules_of_machine M in
    let n = c.args.length in
    let all = matches_at M n c.args.rules.now in
    let h = c.loop-rule.invariant in
    let none : drop c.loop-rule.rule-index c.args.rules.now ≡ [] = drop_of_length-le c.args.rules.now (omega (arith, c.loop-rule-test.false)) in
    let passed : GoesOnWith R all [] h.0 = subst (λ (l : List ℕ). GoesOnWith R all (matches_at M n l) h.0) none h.2 in
    let told = all_passed R all h.0 passed in
    record {
      counted = by_equal _ _ h.0 (given_up R all) (sym told) h.1;
      follows = λ rest. passed rest ∙ ap (λ l. l ++ given_up R rest) (sym told);
    }
