use Rattle.std.proofs.Common.{◌-◌, ◌≤◌, ◌↔◌, length, drop}
use Rattle.lexlook_tables.specs.Searching.{DoAlike}
use Rattle.lexlook_tables.proofs.same.deeds.agree.Given as goal

abbrev pub invariant-places : goal.invariant-places
invariant-places g l = record {
  within : l.at ≤ length l.rules;
  inside : l.at ≤ length l.others;
  alike : DoAlike l.order l.single (g.A.Machine.machine l.left) (g.B.Machine.machine l.right) l.rules l.others
      ↔ DoAlike l.order l.single (g.A.Machine.machine l.left) (g.B.Machine.machine l.right) (drop l.at l.rules) (drop l.at l.others);
}

abbrev pub decreases-places : goal.decreases-places
decreases-places g l = length l.rules - l.at
