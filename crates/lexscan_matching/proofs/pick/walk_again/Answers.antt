use Rattle.std.proofs.Common.{◌≡◌, ℕ, ◌+◌, ◌<◌, List, length, get_or, Some, None, ap, subst, ◌∙◌, arith}
use Rattle.std.specs.Prelude.{filter_map}
use Rattle.lex_semantics.specs.Machine.{Machine}
use Rattle.lex_semantics.specs.PlainMachine.{match_of}
use Rattle.lex_semantics.specs.Trail.{falling}
use Rattle.lexscan_window.specs.declared.state.TextPlace.{TextPlace}
use Rattle.lexscan_matching.specs.Picks.{IsFirst, path_of, state_at}
use Rattle.lexscan_matching.proofs.Picking as Pick
use Rattle.lexscan_matching.proofs.pick.walk_again.Goals as goal

pub bytes-preserved-in-Some : goal.bytes-preserved-in-Some
bytes-preserved-in-Some g c =
    let M : Machine = g.M.Machine.machine c.args.machine.now in
    let w : List ℕ = c.args.window.now.bytes in
    let p : TextPlace = c.args.place in
    let n : ℕ = c.bytes.len in
    let lt : p.at + n < length w = omega (arith, c.requires.inside, c.bytes-test.true) in
    let stepped : c.step-state.result ≡ state_at M p w (n + 1) =
    c.step-state.ensures.state ∙ ap (M.next c.bytes.state) c.byte.ensures.value ∙ ap (λ s. M.next s (get_or w (p.at + n) 0)) c.bytes.invariant.state_is ∙ Pick.state_more M p w n lt in
    record {
      short = omega (arith, c.bytes-test.true);
      state_is = stepped;
      state_known = c.step-state.ensures.known;
      first = Pick.first_same _ _ (Some c.in-Some.pick) (Pick.falling_more M p w n lt)
          (Pick.first_before _ (falling M 0 (path_of M p w n)) c.in-Some.pick (subst (λ l. IsFirst (filter_map (match_of M (n + 1)) l) (Some c.in-Some.pick)) (c.accepts.ensures ∙ ap M.accepts stepped) c.in-Some.ensures.first));
      known = c.in-Some.ensures.known;
      statements = c.in-Some.ensures.statements;
      keeps = c.in-Some.ensures.short;
    }

pub bytes-preserved : goal.bytes-preserved
bytes-preserved g c =
    let M : Machine = g.M.Machine.machine c.args.machine.now in
    let w : List ℕ = c.args.window.now.bytes in
    let p : TextPlace = c.args.place in
    let n : ℕ = c.bytes.len in
    let lt : p.at + n < length w = omega (arith, c.requires.inside, c.bytes-test.true) in
    let stepped : c.step-state.result ≡ state_at M p w (n + 1) =
    c.step-state.ensures.state ∙ ap (M.next c.bytes.state) c.byte.ensures.value ∙ ap (λ s. M.next s (get_or w (p.at + n) 0)) c.bytes.invariant.state_is ∙ Pick.state_more M p w n lt in
    record {
      short = omega (arith, c.bytes-test.true);
      state_is = stepped;
      state_known = c.step-state.ensures.known;
      first = Pick.first_same _ _ c.bytes.best (Pick.falling_more M p w n lt)
          (Pick.first_after _ (falling M 0 (path_of M p w n)) c.bytes.best (subst (λ l. IsFirst (filter_map (match_of M (n + 1)) l) None) (c.accepts.ensures ∙ ap M.accepts stepped) c.in-None.ensures.first) c.bytes.invariant.first);
      known = c.bytes.invariant.known;
      statements = c.bytes.invariant.statements;
      keeps = Pick.keeps_more c.bytes.best n c.bytes.invariant.keeps;
    }
