use Rattle.std.proofs.Common.{◌≡◌, ℕ, List, ◌+◌, ◌<◌, ◌∙◌, ap, drop, length, subst, sym, arith}
use Rattle.std.proofs.lemmas.List.{drop-drop}
use Rattle.lexscan_window.specs.Memos.{silent}
use Rattle.lexlook_suites.specs.Passed.{IsPassed}
use Rattle.lexlook_suites.specs.declared.marks.Marks.{Marks}
use Rattle.lexlook_suites.proofs.Passing.{passed_next, passed_put}
use Rattle.lexlook_suites.proofs.Walked.{left_first}
use Rattle.lexlook_suites.proofs.marks.note.Goals as goal

pub bytes-preserved : goal.bytes-preserved
bytes-preserved c =
    let p = c.args.dfa.now.parts in
    let text : List ℕ = c.rest_of-text.result.now in
    let i : ℕ = c.bytes.walked in
    let lt : i < length text = omega (arith, c.bytes-test.true, c.min.ensures) in
    record {
      known = c.next-state.ensures.known;
      within = omega (arith, lt);
      rest = λ m h. passed_next p m c.bytes.state _ c.next-state.result (drop (i + 1) text) c.next-state.ensures.state
          (subst (λ (l : List ℕ). IsPassed p m c.bytes.state l) (left_first text i 0 lt) (c.bytes.invariant.rest m h));
      passed = c.bytes.invariant.passed;
    }

pub bytes-preserved-in-Some : goal.bytes-preserved-in-Some
bytes-preserved-in-Some c =
    let p = c.args.dfa.now.parts in
    let x : List ℕ = c.args.input.now in
    let text : List ℕ = c.rest_of-text.result.now in
    let i : ℕ = c.bytes.walked in
    let lt : i < length text = omega (arith, c.bytes-test.true, c.min.ensures) in
    let s : ℕ = c.next-state.result in
    let next_one : (m : Marks) → IsPassed p m c.args.start text → IsPassed p m s (drop (i + 1) text) =
    λ m h. passed_next p m c.bytes.state _ s (drop (i + 1) text) c.next-state.ensures.state
    (subst (λ (l : List ℕ). IsPassed p m c.bytes.state l) (left_first text i 0 lt) (c.bytes.invariant.rest m h)) in
    let place : c.in-Some.place ≡ c.args.at + (i + 1) = omega (arith, c.in-Some.ensures) in
    let rest : drop (i + 1) text ≡ drop c.in-Some.place x = ap (drop (i + 1)) c.rest_of-text.ensures ∙ drop-drop (i + 1) c.args.at x ∙ ap (λ j. drop j x) (sym place) in
    record {
      known = c.next-state.ensures.known;
      within = omega (arith, lt);
      rest = next_one;
      passed = λ m h ks. passed_put p m x c.bytes.memo c.put_silent.new.self (silent c.in-Some.place s) (c.bytes.invariant.passed m h ks) c.put_silent.ensures
          (subst (λ (l : List ℕ). IsPassed p m s l) rest (next_one m h));
    }
