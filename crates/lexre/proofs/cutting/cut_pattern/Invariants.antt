use Rattle.std.proofs.Common.{◌≡◌, ◌-◌, ◌+◌, ◌≤◌, length}
use Rattle.lexre.proofs.CuttingLaws.{Agree}
use Rattle.lexre.proofs.FirstFaults.{from}
use Rattle.lexre.proofs.cutting.cut_pattern.Given as goal

abbrev pub invariant-pieces : goal.invariant-pieces
invariant-pieces l = record {
  agree : Agree l.progress (length l.text - length l.rest) l.rest l.text;
  told : from 0 l.text ≡ from l.progress.depth l.rest;
  few : l.progress.depth + length l.rest ≤ length l.text;
}

abbrev pub decreases-pieces : goal.decreases-pieces
decreases-pieces l = length l.rest
