use Rattle.std.proofs.Common.{◌≡◌, ◌-◌, ◌≤◌, length, take}
use Rattle.std.specs.Prelude.{map}
use Rattle.lex_machine.specs.Views.{statement_of}
use Rattle.lexlook_tables.specs.Same.{renumbered}
use Rattle.lexlook_tables.proofs.same.deeds.are_same.Given as goal

abbrev pub invariant-places : goal.invariant-places
invariant-places l = record {
  within : l.at ≤ length l.statements;
  same : take l.at (map (λ s. renumbered l.order (statement_of s)) l.statements) ≡ take l.at (map statement_of l.others);
}

abbrev pub decreases-places : goal.decreases-places
decreases-places l = length l.statements - l.at
