use Rattle.std.proofs.Common.{◌≡◌, ℕ, ◌+◌, ◌-◌, ◌≤◌, ◌<◌, length, take, get_or, ◌∙◌, ap, arith}
use Rattle.lex_semantics.specs.Machine.{Machine, walk}
use Rattle.lexscan_window.specs.declared.memo.Mark.{Mark}
use Rattle.lexlook_counts.proofs.Walked.{mark_on_way, marks_put, state_more}
use Rattle.lexlook_counts.proofs.walking.note.Goals as goal

pub bytes-preserved-in-Some : goal.bytes-preserved-in-Some
bytes-preserved-in-Some g c =
    let M : Machine = g.M.Machine.machine c.args.machine.now in
    let states : ℕ = g.M.Machine.states c.args.machine.now in
    let n : ℕ = c.bytes.count in
    let r = c.args.walk in
    let h = c.requires.walk in
    let lt : n < length c.args.bytes.now = omega (arith, c.bytes-test.true, h.walked, h.inside) in
    let on : n + 1 ≤ r.count = omega (arith, c.bytes-test.true, h.walked) in
    let stepped : c.step-state.result ≡ walk M c.args.first (take (n + 1) c.args.bytes.now) =
    c.step-state.ensures.state ∙ ap (λ s. M.next s (get_or c.args.bytes.now n 0)) c.bytes.invariant.state_is ∙ state_more M c.args.first c.args.bytes.now n lt in
    let new : Mark = record { place = c.in-Some.place; state = c.step-state.result; count = r.count - (n + 1); last = r.state; before = r.before } in
    record {
      within = omega (arith, c.bytes-test.true);
      state_is = stepped;
      known = c.step-state.ensures.known;
      marks = λ given le held ms. marks_put M states given c.bytes.memo c.put_walk.new.self new (c.bytes.invariant.marks given le held ms) c.put_walk.ensures
          (mark_on_way M states given c.args.bytes.now c.args.place c.args.first (n + 1) c.in-Some.place c.step-state.result r le held h on stepped (omega (arith, c.in-Some.ensures)));
    }
