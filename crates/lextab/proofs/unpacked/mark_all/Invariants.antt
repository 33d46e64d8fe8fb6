use Rattle.std.proofs.Common.{◌≡◌, length}
use Rattle.lextab.specs.Unpacked.{TellChanges}
use Rattle.lextab.proofs.unpacked.mark_all.Given as goal

abbrev pub invariant-loop-state : goal.invariant-loop-state
invariant-loop-state l = record {
  len : length l.changes ≡ 256;
  tell : TellChanges l.next l.state l.changes;
}
