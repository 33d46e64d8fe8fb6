use Rattle.std.proofs.Common.{◌≡◌, ◌-◌, ◌≤◌, ◌<◌, length, take}
use Rattle.lex_semantics.specs.Machine.{walk}
use Rattle.lexscan_matching.proofs.back.walk_on.Given as goal

abbrev pub invariant-bytes : goal.invariant-bytes
invariant-bytes g l =
    let M = g.M.Machine.machine l.machine in
    record {
      state_is : l.state ≡ walk M l.first (take l.count l.bytes);
      known : l.state < g.M.Machine.states l.machine;
      inside : l.count ≤ length l.bytes;
    }

abbrev pub decreases-bytes : goal.decreases-bytes
decreases-bytes g l = length l.bytes - l.count
