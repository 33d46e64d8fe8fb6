use Rattle.std.proofs.Common.{rules, ◌≡◌, ℕ, ◌+◌, ◌<◌, List, length, get_or, Some, None, refl, sym, ap, subst, ◌∙◌, arith}
use Rattle.std.specs.Prelude.{filter_map}
use Rattle.lex_machine.proofs.Growing.{is_text_from}
use Rattle.lex_semantics.specs.Machine.{Machine}
use Rattle.lex_semantics.specs.PlainMachine.{match_of}
use Rattle.lexscan_window.specs.declared.state.TextPlace.{TextPlace}
use Rattle.lexscan_matching.specs.Fronts.{Begins}
use Rattle.lexscan_matching.specs.Picks.{IsFirst, state_at}
use Rattle.lexscan_matching.proofs.Fronting.{front_matches, front_first, front_here, front_none, front_all, front_dead}
use Rattle.lexscan_matching.proofs.Picking.{state_more}
use Rattle.lexscan_matching.proofs.front.longest.Goals as goal
use Rattle.lexscan_matching.proofs.front.longest.Goals.{in-Some, in-None}

pub bytes-init : goal.bytes-init
bytes-init g c =
    let M : Machine = g.M.Machine.machine c.args.machine.now in
    let p : TextPlace = record { at = 0; line_start = c.args.line_start; condition = c.args.condition } in
    record {
      short = omega arith;
      state_is = c.start-state.ensures.state;
      state_known = c.start-state.ensures.known;
      begins = front_first M p c.args.text.now refl (search rules);
    }

pub returns-then-not-goes_on : goal.returns-then-not-goes_on
returns-then-not-goes_on g c =
    let M : Machine = g.M.Machine.machine c.args.machine.now in
    let y : List ℕ = c.args.text.now in
    let p : TextPlace = record { at = 0; line_start = c.args.line_start; condition = c.args.condition } in
    let n : ℕ = c.bytes.length in
    let lt : n < length y = c.bytes-test.true in
    let z : n ≡ p.at + n = omega arith in
    let inv = c.bytes.invariant in
    let stepped : c.step-state.result ≡ state_at M p y (n + 1) =
    c.step-state.ensures.state ∙ ap (λ s. M.next s (get_or y n 0)) inv.state_is ∙ ap (λ i. M.next (state_at M p y n) (get_or y i 0)) z ∙ state_more M p y n (omega (arith, lt)) in
    let begins : Begins M.count (front_matches M p y refl (n + 1)) c.match-first_candidate.best = elim c.match-first_candidate.branch [
      | in-Some w ↦
          rw w.best-is (front_here M p y refl n w.in-Some.pick lt w.in-Some.ensures.known
          (subst (λ l. IsFirst (filter_map (match_of M (n + 1)) l) (Some w.in-Some.pick)) (c.accepts.ensures ∙ ap M.accepts stepped) w.in-Some.ensures.first))
      | in-None w ↦
          rw w.best-is (front_none M p y refl n c.bytes.best lt
          (subst (λ l. IsFirst (filter_map (match_of M (n + 1)) l) None) (c.accepts.ensures ∙ ap M.accepts stepped) w.in-None.ensures.first) inv.begins)
    ] in
    front_dead M p y refl (g.M.Machine.laws c.args.machine.now) (n + 1) c.match-first_candidate.best (is_text_from y (λ i. omega (arith, c.type_inv.text i))) (omega arith) (omega (arith, lt))
    (ap M.goes_on (sym stepped) ∙ sym c.goes_on.ensures ∙ c.if-not-goes_on.true) begins

pub bytes-preserved : goal.bytes-preserved
bytes-preserved g c =
    let M : Machine = g.M.Machine.machine c.args.machine.now in
    let y : List ℕ = c.args.text.now in
    let p : TextPlace = record { at = 0; line_start = c.args.line_start; condition = c.args.condition } in
    let n : ℕ = c.bytes.length in
    let lt : n < length y = c.bytes-test.true in
    let z : n ≡ p.at + n = omega arith in
    let inv = c.bytes.invariant in
    let stepped : c.step-state.result ≡ state_at M p y (n + 1) =
    c.step-state.ensures.state ∙ ap (λ s. M.next s (get_or y n 0)) inv.state_is ∙ ap (λ i. M.next (state_at M p y n) (get_or y i 0)) z ∙ state_more M p y n (omega (arith, lt)) in
    record {
      short = omega (arith, lt);
      state_is = stepped;
      state_known = c.step-state.ensures.known;
      begins = elim c.match-first_candidate.branch [
        | in-Some w ↦
            rw w.best-is (front_here M p y refl n w.in-Some.pick lt w.in-Some.ensures.known
            (subst (λ l. IsFirst (filter_map (match_of M (n + 1)) l) (Some w.in-Some.pick)) (c.accepts.ensures ∙ ap M.accepts stepped) w.in-Some.ensures.first))
        | in-None w ↦
            rw w.best-is (front_none M p y refl n c.bytes.best lt
            (subst (λ l. IsFirst (filter_map (match_of M (n + 1)) l) None) (c.accepts.ensures ∙ ap M.accepts stepped) w.in-None.ensures.first) inv.begins)
      ];
    }

pub returns : goal.returns
returns g c =
    let M : Machine = g.M.Machine.machine c.args.machine.now in
    let y : List ℕ = c.args.text.now in
    let p : TextPlace = record { at = 0; line_start = c.args.line_start; condition = c.args.condition } in
    front_all M p y refl (g.M.Machine.laws c.args.machine.now) c.bytes.length c.bytes.best (search rules) c.bytes.invariant.short (omega (arith, c.bytes-test.false)) c.bytes.invariant.begins
