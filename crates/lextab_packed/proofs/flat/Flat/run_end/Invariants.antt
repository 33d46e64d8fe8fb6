use Rattle.std.proofs.Common.{◌≡◌, ℕ, ◌-◌, ◌*◌, ◌<◌, ◌≤◌, length}
use Rattle.lextab_packed.specs.Machines.{table_machine, table_states}
use Rattle.lextab_packed.specs.Runs.{Stays}
use Rattle.lextab_packed.proofs.flat.Flat.run_end.Given as goal

abbrev pub invariant-run : goal.invariant-run
invariant-run l =
    (l.end ≤ length l.bytes) × ((s : ℕ) → l.place ≡ 256 * s → s < table_states l.self.tables → Stays (table_machine l.self.tables) s l.bytes l.start l.end)

abbrev pub decreases-run : goal.decreases-run
decreases-run l = length l.bytes - l.end
