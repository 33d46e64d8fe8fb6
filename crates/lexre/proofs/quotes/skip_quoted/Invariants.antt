use Rattle.std.proofs.Common.{◌≡◌, drop, length}
use Rattle.lexre_bytes.specs.Quotes.{after_quotes}
use Rattle.lexre_bytes.specs.Unread.{after_byte, unread}
use Rattle.lexre.proofs.quotes.skip_quoted.Given as goal

abbrev pub invariant-loop-byte : goal.invariant-loop-byte
invariant-loop-byte l = record {
  after : after_quotes l.rest ≡ after_quotes (drop 1 l.text);
  left : unread after_byte (drop 1 l.text) ≡ unread after_byte l.rest;
}

abbrev pub decreases-loop-byte : goal.decreases-loop-byte
decreases-loop-byte l = length l.rest
