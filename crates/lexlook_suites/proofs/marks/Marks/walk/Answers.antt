use Rattle.std.proofs.Common.{◌≡◌, ℕ, List, ◌+◌, ◌∙◌, ap, drop, subst, sym, arith}
use Rattle.std.proofs.lemmas.List.{drop-drop, drop_all}
use Rattle.lexauto_dfa.specs.Automata.{states_of}
use Rattle.lexlook_suites.specs.Marking.{Adds}
use Rattle.lexlook_suites.specs.Passed.{ArePassed, IsPassed}
use Rattle.lexlook_suites.specs.Walks.{ComesTo, GoesBy}
use Rattle.lexlook_suites.proofs.Walked.{Walking, left_first, walked_all, walked_dead, walking_on}
use Rattle.lexlook_suites.proofs.Passing.{all_passed_more, walked_passed}
use Rattle.lexlook_suites.proofs.marks.Marks.walk.Goals as goal

pub returns-then-state-eq0 : goal.returns-then-state-eq0
returns-then-state-eq0 c =
    let p = c.args.dfa.now.parts in
    let n = states_of c.args.dfa.now in
    subst (λ (w : List ℕ). Adds n c.args.self.now c.bytes.self (ComesTo p c.args.start w) (GoesBy p c.args.start w)) c.rest_of-text.ensures
    (walked_dead p n c.args.self.now c.args.start c.rest_of-text.result.now c.bytes.self c.bytes.state (drop c.bytes.count c.rest_of-text.result.now) c.args.dfa.now.lawful.dead_stays c.if-state-eq0.true c.bytes.invariant.walking)

pub returns : goal.returns
returns c =
    let p = c.args.dfa.now.parts in
    let n = states_of c.args.dfa.now in
    let text : List ℕ = c.rest_of-text.result.now in
    subst (λ (w : List ℕ). Adds n c.args.self.now c.come_to-2.new.self (ComesTo p c.args.start w) (GoesBy p c.args.start w)) c.rest_of-text.ensures
    (walked_all p n c.args.self.now c.args.start text c.bytes.self c.come_to-2.new.self c.bytes.state (drop c.bytes.count text) (drop_all c.bytes.count text c.bytes-test.false) c.bytes.invariant.walking c.come_to-2.ensures)

pub bytes-preserved : goal.bytes-preserved
bytes-preserved c =
    let p = c.args.dfa.now.parts in
    let n = states_of c.args.dfa.now in
    let old = c.args.self.now in
    let text : List ℕ = c.rest_of-text.result.now in
    let i : ℕ = c.bytes.count in
    let on : Walking p n old c.go_by.new.self c.args.start text c.next-next.result (drop (i + 1) text) =
    walking_on p n old c.args.start text c.bytes.self c.come_to.new.self c.go_by.new.self c.bytes.state _ c.next-next.result (drop (i + 1) text)
    (subst (λ (l : List ℕ). Walking p n old c.bytes.self c.args.start text c.bytes.state l) (left_first text i 0 c.bytes-test.true) c.bytes.invariant.walking)
    c.next-next.ensures.state c.come_to.ensures c.go_by.ensures in
    let known : ArePassed p c.go_by.new.self c.args.input.now c.args.memo.now =
    all_passed_more p c.come_to.new.self c.go_by.new.self _ _ c.args.input.now c.args.memo.now c.go_by.ensures
    (all_passed_more p c.bytes.self c.come_to.new.self _ _ c.args.input.now c.args.memo.now c.come_to.ensures c.bytes.invariant.passed) in
    record { known = c.next-next.ensures.known; within = omega (arith, c.bytes-test.true); walking = on; passed = known }

pub bytes-preserved-else-is_passed : goal.bytes-preserved-else-is_passed
bytes-preserved-else-is_passed c =
    let p = c.args.dfa.now.parts in
    let n = states_of c.args.dfa.now in
    let old = c.args.self.now in
    let text : List ℕ = c.rest_of-text.result.now in
    let i : ℕ = c.bytes.count in
    let on : Walking p n old c.go_by.new.self c.args.start text c.next-next.result (drop (i + 1) text) =
    walking_on p n old c.args.start text c.bytes.self c.come_to.new.self c.go_by.new.self c.bytes.state _ c.next-next.result (drop (i + 1) text)
    (subst (λ (l : List ℕ). Walking p n old c.bytes.self c.args.start text c.bytes.state l) (left_first text i 0 c.bytes-test.true) c.bytes.invariant.walking)
    c.next-next.ensures.state c.come_to.ensures c.go_by.ensures in
    let known : ArePassed p c.go_by.new.self c.args.input.now c.args.memo.now =
    all_passed_more p c.come_to.new.self c.go_by.new.self _ _ c.args.input.now c.args.memo.now c.go_by.ensures
    (all_passed_more p c.bytes.self c.come_to.new.self _ _ c.args.input.now c.args.memo.now c.come_to.ensures c.bytes.invariant.passed) in
    record { known = c.next-next.ensures.known; within = omega (arith, c.bytes-test.true); walking = on; passed = known }

pub returns-then-is_passed : goal.returns-then-is_passed
returns-then-is_passed c =
    let p = c.args.dfa.now.parts in
    let n = states_of c.args.dfa.now in
    let old = c.args.self.now in
    let text : List ℕ = c.rest_of-text.result.now in
    let i : ℕ = c.bytes.count in
    let on : Walking p n old c.go_by.new.self c.args.start text c.next-next.result (drop (i + 1) text) =
    walking_on p n old c.args.start text c.bytes.self c.come_to.new.self c.go_by.new.self c.bytes.state _ c.next-next.result (drop (i + 1) text)
    (subst (λ (l : List ℕ). Walking p n old c.bytes.self c.args.start text c.bytes.state l) (left_first text i 0 c.bytes-test.true) c.bytes.invariant.walking)
    c.next-next.ensures.state c.come_to.ensures c.go_by.ensures in
    let known : ArePassed p c.go_by.new.self c.args.input.now c.args.memo.now =
    all_passed_more p c.come_to.new.self c.go_by.new.self _ _ c.args.input.now c.args.memo.now c.go_by.ensures
    (all_passed_more p c.bytes.self c.come_to.new.self _ _ c.args.input.now c.args.memo.now c.come_to.ensures c.bytes.invariant.passed) in
    let (k, among, place, state) = c.is_passed.ensures c.if-is_passed.true in
    let held : text ≡ drop c.args.at c.args.input.now = c.rest_of-text.ensures in
    let rest : drop k.place c.args.input.now ≡ drop (i + 1) text =
    ap (λ j. drop j c.args.input.now) place ∙ sym (drop-drop (i + 1) c.args.at c.args.input.now) ∙ ap (drop (i + 1)) (sym held) in
    let here : IsPassed p c.go_by.new.self c.next-next.result (drop (i + 1) text) =
    subst (λ s. IsPassed p c.go_by.new.self s (drop (i + 1) text)) state (subst (λ (l : List ℕ). IsPassed p c.go_by.new.self k.state l) rest (known k among)) in
    subst (λ (w : List ℕ). Adds n old c.go_by.new.self (ComesTo p c.args.start w) (GoesBy p c.args.start w)) held
    (walked_passed p old c.args.start text c.go_by.new.self c.next-next.result (drop (i + 1) text) on here)
