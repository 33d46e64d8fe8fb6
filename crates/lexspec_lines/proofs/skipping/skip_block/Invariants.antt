use Rattle.std.proofs.Common.{◌≡◌, ◌≤◌, suc, length}
use Rattle.lexspec_lines.specs.Lines.{after_block}
use Rattle.lexspec_lines.proofs.skipping.skip_block.Given as goal

abbrev pub invariant-loop-rest : goal.invariant-loop-rest
invariant-loop-rest l = record {
  same : after_block (suc (length l.rest)) l.rest ≡ after_block (suc (length l.text)) l.text;
  shorter : length l.rest ≤ length l.text;
}

abbrev pub decreases-loop-rest : goal.decreases-loop-rest
decreases-loop-rest l = length l.rest
