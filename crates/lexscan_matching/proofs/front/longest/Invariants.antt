use Rattle.std.proofs.Common.{◌≡◌, ◌-◌, ◌<◌, ◌≤◌, length, refl}
use Rattle.lexscan_window.specs.declared.state.TextPlace.{TextPlace}
use Rattle.lexscan_matching.specs.Fronts.{Begins}
use Rattle.lexscan_matching.specs.Picks.{state_at}
use Rattle.lexscan_matching.proofs.Fronting.{front_matches}
use Rattle.lexscan_matching.proofs.front.longest.Given as goal

abbrev pub invariant-bytes : goal.invariant-bytes
invariant-bytes g l =
    let M = g.M.Machine.machine l.fn.machine in
    let p : TextPlace = record { at = 0; line_start = l.fn.line_start; condition = l.fn.condition } in
    record {
      short : l.length ≤ length l.fn.text;
      state_is : l.state ≡ state_at M p l.fn.text l.length;
      state_known : l.state < g.M.Machine.states l.machine;
      begins : Begins M.count (front_matches M p l.fn.text refl l.length) l.best;
    }

abbrev pub decreases-bytes : goal.decreases-bytes
decreases-bytes g l = length l.fn.text - l.length
