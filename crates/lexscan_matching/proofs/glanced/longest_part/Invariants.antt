use Rattle.std.proofs.Common.{length, take, ◌-◌, ◌≡◌, ◌<◌, ◌≤◌}
use Rattle.lex_semantics.specs.Machine.{walk}
use Rattle.lexscan_matching.specs.Glanced.{NoneAfter}
use Rattle.lexscan_matching.proofs.glanced.longest_part.Given as goal

abbrev pub invariant-bytes : goal.invariant-bytes
invariant-bytes g l =
    let M = g.M.Machine.machine l.machine in
    record {
      inside : l.count ≤ length l.bytes;
      few : l.longest.keep ≤ l.count;
      known : l.state < g.M.Machine.states l.machine;
      known_longest : l.longest.state < g.M.Machine.states l.machine;
      state_is : l.state ≡ walk M l.first (take l.count l.bytes);
      longest_is : l.longest.state ≡ walk M l.first (take l.longest.keep l.bytes);
      none : NoneAfter M l.first l.bytes l.longest.keep l.count;
    }

abbrev pub decreases-bytes : goal.decreases-bytes
decreases-bytes g l = length l.bytes - l.count
