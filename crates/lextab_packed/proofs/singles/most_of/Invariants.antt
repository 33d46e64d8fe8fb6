use Rattle.std.proofs.Common.{◌≡◌, ℕ, length}
use Rattle.std.specs.Prelude.{slice_get}
use Rattle.std.specs.Option.{ForSome}
use Rattle.lextab_packed.specs.Machines.{table_machine}
use Rattle.lextab_packed.specs.Singles.{TellsSingles}
use Rattle.lextab_packed.proofs.singles.most_of.Given as goal

abbrev pub invariant-loop-condition : goal.invariant-loop-condition
invariant-loop-condition l =
    (length l.most.items ≡ l.condition) × ((c : ℕ) → ForSome (slice_get l.most.items c) (λ m. TellsSingles (table_machine l.tables) l.rows c m))
