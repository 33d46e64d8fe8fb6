use Rattle.std.proofs.Common.{length, take, ◌-◌, ◌≡◌, ◌<◌, ◌≤◌}
use Rattle.lex_semantics.specs.Machine.{walk}
use Rattle.lexscan_matching.specs.Glanced.{NoneAfter}
use Rattle.lexscan_matching.proofs.glanced.farther_part.Given as goal

abbrev pub invariant-back : goal.invariant-back
invariant-back g l =
    let M = g.M.Machine.machine l.machine in
    record {
      some : 1 ≤ l.keep;
      inside : l.keep ≤ length l.bytes;
      known : l.state < g.M.Machine.states l.machine;
      state_is : l.state ≡ walk M l.first (take l.keep l.bytes);
      none : NoneAfter M l.first l.bytes (l.keep - 1) (length l.bytes);
    }

abbrev pub decreases-back : goal.decreases-back
decreases-back g l = l.keep
