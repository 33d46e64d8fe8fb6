use Rattle.std.proofs.Common.{◌≡◌, ℕ, ◌-◌, List, length, drop, ap, subst, ◌∙◌, arith}
use Rattle.std.specs.Prelude.{slice_range}
use Rattle.std.proofs.lemmas.List.{take_all, length-drop}
use Rattle.lexscan.specs.Pushes.{WalkStaysLive}
use Rattle.lexscan_window.specs.declared.state.State.{State}
use Rattle.lexscan.proofs.Pushing as Push
use Rattle.lexscan.proofs.asking.walk_all.Goals as goal

pub returns-in-Some : goal.returns-in-Some
returns-in-Some g c =
    let M = g.M.Machine.machine c.args.machine.now in
    let s : State = c.args.state.now in
    let w : List ℕ = s.reading.window.bytes in
    let size : length (drop s.place.at w) ≡ length w - s.place.at = length-drop s.place.at w in
    let whole : c.slice.result.now ≡ drop s.place.at w = c.slice.ensures ∙ ap (slice_range w s.place.at) c.len.ensures ∙ take_all (length w - s.place.at) (drop s.place.at w) (omega (arith, size)) in
    let held = subst (λ l. WalkStaysLive M c.start-first.result l c.in-Some.held) whole c.in-Some.ensures.walked in
    Push.asking_all M (g.M.Machine.states c.args.machine.now) s c.args.waiting.now c.in-Some.held c.walk_over-in-Some.result c.requires.inside (subst (λ q. WalkStaysLive M q (drop s.place.at w) c.in-Some.held) c.start-first.ensures.state held) c.walk_over-in-Some.ensures.known c.walk_over-in-Some.ensures.walked
