use Rattle.std.proofs.Common.{◌≡◌, ◌-◌, length}
use Rattle.std.specs.Prelude.{slice_index_or}
use Rattle.lexauto.specs.Interned.{befores_in, chained, found, lists_in, no_key}
use Rattle.lexauto.proofs.interner.Interner.find.Given as goal

-- what is found from here on, in the places that are left
abbrev pub invariant-loop : goal.invariant-loop
invariant-loop l =
    chained (lists_in l.self.keys.items) (befores_in l.self.keys.items) (length l.self.keys.items - l.counter) l.at l.kept
    ≡ found l.self.keys.items (slice_index_or l.self.lasts.items l.row no_key) l.kept
