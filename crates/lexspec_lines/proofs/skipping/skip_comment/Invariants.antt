use Rattle.std.proofs.Common.{◌≡◌, ◌≤◌, length}
use Rattle.lexspec_lines.specs.Lines.{after_comment}
use Rattle.lexspec_lines.proofs.TextLaws.{comment_rest}
use Rattle.lexspec_lines.proofs.skipping.skip_comment.Given as goal

abbrev pub invariant-loop-first : goal.invariant-loop-first
invariant-loop-first l = record {
  same : comment_rest l.rest ≡ after_comment l.text;
  shorter : length l.rest ≤ length l.text;
}

abbrev pub decreases-loop-first : goal.decreases-loop-first
decreases-loop-first l = length l.rest
