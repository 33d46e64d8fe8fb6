use Rattle.std.proofs.Common.{length, take, ◌-◌, ◌*◌, ◌≡◌, ◌<◌, ◌≤◌}
use Rattle.lex_semantics.specs.Machine.{walk}
use Rattle.lextab_packed.specs.Machines.{table_machine, table_states}
use Rattle.lextab_packed.proofs.Ways.{Asked}
use Rattle.lextab_packed.proofs.flat.FlatMachine.way.Given as goal

abbrev pub invariant-bytes : goal.invariant-bytes
invariant-bytes l =
    let M = table_machine l.self.tables in
    record {
      inside : l.count ≤ length l.bytes;
      place_is : l.place ≡ 256 * walk M l.first (take l.count l.bytes);
      known : walk M l.first (take l.count l.bytes) < table_states l.self.tables;
      asked : Asked M l.first l.bytes l.count;
    }

abbrev pub decreases-bytes : goal.decreases-bytes
decreases-bytes l = length l.bytes - l.count
