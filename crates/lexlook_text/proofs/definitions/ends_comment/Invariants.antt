use Rattle.std.proofs.Common.{◌≡◌, length}
use Rattle.lexlook_text.specs.DefinitionLines.{ends_comment}
use Rattle.lexlook_text.proofs.definitions.ends_comment.Given as goal

abbrev pub invariant-bytes : goal.invariant-bytes
invariant-bytes l = ends_comment l.text ≡ ends_comment l.rest

abbrev pub decreases-bytes : goal.decreases-bytes
decreases-bytes l = length l.rest
