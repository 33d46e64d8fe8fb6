use Rattle.std.proofs.Common.{◌≡◌, ◌∙◌, ℕ, ◌+◌, ◌-◌, ◌<◌, [], ◌++◌, List, length, ap, get_or, refl, subst, sym, take, arith}
use Rattle.lex_semantics.specs.Machine.{Machine, rules_of_machine}
use Rattle.lex_semantics.specs.Trail.{falling}
use Rattle.lexlook_counts.specs.Descending.{GivenUpAmong, GoesOnWith, matches_at}
use Rattle.lexlook_counts.specs.GivenUp.{given_up}
use Rattle.lexlook_counts.proofs.Giving.{by_equal, then_more}
use Rattle.lexlook_counts.proofs.Passing.{all_passed, among_at, at_length, one_length, past_length}
use Rattle.lexlook_counts.proofs.given_up.count_matches.Goals as goal

-- the matches up to one length, those of this length first
parted : (M : Machine) (path rules : List ℕ) (length_is n : ℕ) → length_is ≡ n + 1 → n < length path → rules ≡ M.accepts (get_or path n 0) → falling M 0 (take length_is path) ≡ matches_at M length_is rules ++ falling M 0 (take n path)
parted M path rules long n e low is =
    ap (λ (k : ℕ). falling M 0 (take k path)) e ∙ one_length M n path (get_or path n 0) low refl ∙ ap (λ (l : List ℕ). matches_at M (n + 1) l ++ falling M 0 (take n path)) (sym is)
    ∙ ap (λ (k : ℕ). matches_at M k rules ++ falling M 0 (take n path)) (sym e)

pub accepts-rules-requires : goal.accepts-rules-requires
accepts-rules-requires g c = c.requires _ (among_at c.args.path.now (c.lengths.length - 1) (omega (arith, c.lengths-test.true, c.lengths.invariant.0)))

pub returns-then-not-count_rules : goal.returns-then-not-count_rules
returns-then-not-count_rules g c =
    let M : Machine = g.M.Machine.machine c.args.machine.now in
    let R = rules_of_machine M in
    let n = c.lengths.length - 1 in
    let h = c.lengths.invariant.1 in
    let ms = matches_at M c.lengths.length c.accepts-rules.result.now in
    let some = subst (GivenUpAmong R ms _ _) c.if-not-count_rules.true c.count_rules.ensures in
    let told = at_length R (falling M 0 c.args.path.now) (falling M 0 (take c.lengths.length c.args.path.now)) ms (falling M 0 (take n c.args.path.now)) h.0 _ _ h.2
    (parted M c.args.path.now c.accepts-rules.result.now c.lengths.length n (omega (arith, c.lengths-test.true)) (omega (arith, c.lengths-test.true, c.lengths.invariant.0)) c.accepts-rules.ensures) some in
    by_equal _ _ (h.0 ++ given_up R ms) (given_up R (falling M 0 c.args.path.now)) (sym told) (then_more _ _ _ h.0 (given_up R ms) h.1 some.counted)

pub lengths-preserved : goal.lengths-preserved
lengths-preserved g c =
    let M : Machine = g.M.Machine.machine c.args.machine.now in
    let R = rules_of_machine M in
    let n = c.lengths.length - 1 in
    let h = c.lengths.invariant.1 in
    let ms = matches_at M c.lengths.length c.accepts-rules.result.now in
    let every = subst (GivenUpAmong R ms _ _) c.if-not-count_rules.false c.count_rules.ensures in
    let goes_on = past_length R (falling M 0 c.args.path.now) (falling M 0 (take c.lengths.length c.args.path.now)) ms (falling M 0 (take n c.args.path.now)) h.0 _ _ h.2
    (parted M c.args.path.now c.accepts-rules.result.now c.lengths.length n (omega (arith, c.lengths-test.true)) (omega (arith, c.lengths-test.true, c.lengths.invariant.0)) c.accepts-rules.ensures) every in
    (omega (arith, c.lengths.invariant.0), (h.0 ++ given_up R ms, then_more _ _ _ h.0 (given_up R ms) h.1 every.counted, goes_on))

pub returns : goal.returns
returns g c =
    let M : Machine = g.M.Machine.machine c.args.machine.now in
    let R = rules_of_machine M in
    let h = c.lengths.invariant.1 in
    let none : c.lengths.length ≡ 0 = omega (arith, c.lengths-test.false) in
    let passed : GoesOnWith R (falling M 0 c.args.path.now) [] h.0 = subst (λ (k : ℕ). GoesOnWith R (falling M 0 c.args.path.now) (falling M 0 (take k c.args.path.now)) h.0) none h.2 in
    by_equal _ _ h.0 (given_up R (falling M 0 c.args.path.now)) (sym (all_passed R (falling M 0 c.args.path.now) h.0 passed)) h.1
