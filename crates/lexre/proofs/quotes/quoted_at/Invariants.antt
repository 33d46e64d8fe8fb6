use Rattle.std.proofs.Common.{length}
use Rattle.lexre.proofs.QuotedLaws.{QuotedSo}
use Rattle.lexre.proofs.quotes.quoted_at.Given as goal

abbrev pub invariant-loop-first : goal.invariant-loop-first
invariant-loop-first l = QuotedSo l.text l.bytes.items l.rest

abbrev pub decreases-loop-first : goal.decreases-loop-first
decreases-loop-first l = length l.rest
