use Rattle.std.proofs.Common.{◌≡◌, length}
use Rattle.lexlook_check.specs.SourceLines.{text_line}
use Rattle.lexlook_check.proofs.source.text_line.Given as goal

abbrev pub invariant-bytes : goal.invariant-bytes
invariant-bytes l = text_line l.fn.line l.text ≡ text_line l.line l.rest

abbrev pub decreases-bytes : goal.decreases-bytes
decreases-bytes l = length l.rest
