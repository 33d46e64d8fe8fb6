use Rattle.std.proofs.Common.{length}
use Rattle.lexscan.proofs.Lying.{lies_at}
use Rattle.lexscan.proofs.token.texts_of.Goals as goal

pub text-requires-clause-order : goal.text-requires-clause-order
text-requires-clause-order c = (lies_at (length c.args.input.now) 0 c.args.tokens.now c.loop-token.token-index _ c.requires c.loop-token-test.true).0

pub text-requires-clause-inside : goal.text-requires-clause-inside
text-requires-clause-inside c = (lies_at (length c.args.input.now) 0 c.args.tokens.now c.loop-token.token-index _ c.requires c.loop-token-test.true).1
