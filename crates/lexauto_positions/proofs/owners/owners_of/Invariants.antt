use Rattle.std.proofs.Common.{◌≡◌, ◌+◌, drop, length, map}
use Rattle.lex_semantics.specs.Subsets.{all_positions, base_of}
use Rattle.lexauto_positions.specs.Laid.{shape_of, HaveSized}
use Rattle.lexauto_positions.specs.Owners.{AreOwners}
use Rattle.lexauto_positions.proofs.owners.owners_of.Given as goal

abbrev pub invariant-loop-i : goal.invariant-loop-i
invariant-loop-i l = record {
  sized : HaveSized (drop l.i l.rules);
  place : l.base + all_positions (map shape_of (drop l.i l.rules)) ≡ all_positions (map shape_of l.rules);
  begins : l.base ≡ base_of (map shape_of l.rules) 0 l.i;
  len : length l.owners.items ≡ l.base;
  owners : AreOwners (map shape_of l.rules) l.owners.items;
}
