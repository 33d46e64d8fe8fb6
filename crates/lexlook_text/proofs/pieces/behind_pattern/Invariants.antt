use Rattle.std.proofs.Common.{◌≡◌, ◌≤◌, length}
use Rattle.lexlook_text.specs.Pieces.{behind_pattern}
use Rattle.lexlook_text.proofs.pieces.behind_pattern.Given as goal

-- what follows the pattern is that of the rest
abbrev pub invariant-pieces : goal.invariant-pieces
invariant-pieces l = record {
  after : behind_pattern 0 l.text ≡ behind_pattern 0 l.rest;
  shorter : length l.rest ≤ length l.text;
}

abbrev pub decreases-pieces : goal.decreases-pieces
decreases-pieces l = length l.rest
