use Rattle.std.proofs.Common.{◌≡◌, false, length}
use Rattle.lexlook_text.specs.Pieces.{behind_quote}
use Rattle.lexlook_text.proofs.pieces.behind_quote.Given as goal

abbrev pub invariant-bytes : goal.invariant-bytes
invariant-bytes l = behind_quote false l.text ≡ behind_quote l.escaped l.rest

abbrev pub decreases-bytes : goal.decreases-bytes
decreases-bytes l = length l.rest
