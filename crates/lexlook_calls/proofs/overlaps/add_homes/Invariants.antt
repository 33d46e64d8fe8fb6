use Rattle.std.proofs.Common.{◌≡◌, ◌++◌, drop, map}
use Rattle.lexlook_calls.specs.Overlaps.{in_conditions}
use Rattle.lexlook_calls.proofs.overlaps.add_homes.Given as goal

abbrev pub invariant-loop-condition : goal.invariant-loop-condition
invariant-loop-condition l =
    l.text.items ++ in_conditions (drop l.condition (map (λ n. n.now) l.names)) (drop l.condition l.homes)
    ≡ l.fn.text.items ++ in_conditions (map (λ n. n.now) l.names) l.homes
