use Rattle.lexspec.proofs.ActionLaws.{slash_like}
use Rattle.lexspec.proofs.action_text.ActionCursor.past_slash.Goals as goal

pub returns-else-byte-eq47-clause-step : goal.returns-else-byte-eq47-clause-step
returns-else-byte-eq47-clause-step c = λ t. slash_like c.past_outside.result c.args.self.depth c.args.byte t c.if-byte-eq42.false c.if-byte-eq47.false (c.past_outside.ensures.step t)
