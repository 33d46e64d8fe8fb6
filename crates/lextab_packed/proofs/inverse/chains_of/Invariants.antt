use Rattle.std.proofs.Common.{◌≡◌, ◌≤◌, length}
use Rattle.lextab_packed.specs.Inverse.{AreChains}
use Rattle.lextab_packed.proofs.inverse.chains_of.Given as goal

abbrev pub invariant-loop-x : goal.invariant-loop-x
invariant-loop-x l = record {
  targets : length l.last.items ≡ l.targets;
  few : length l.entries.items ≤ l.x;
  chains : AreChains l.next l.last.items l.entries.items l.before.items l.x;
}
