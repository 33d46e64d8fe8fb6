use Rattle.lextab_packed.proofs.Chained.{Walked}
use Rattle.lextab_packed.proofs.live.mark_sources.Given as goal

abbrev pub invariant-chain : goal.invariant-chain
invariant-chain l = Walked l.sources.next.now l.sources.chains.entries.items l.target l.link l.accepting l.fn.live.items l.fn.waiting.items l.live.items l.waiting.items

abbrev pub decreases-chain : goal.decreases-chain
decreases-chain l = l.link
