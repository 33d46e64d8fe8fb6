use Rattle.std.proofs.Common.{arith}
use Rattle.lex_machine.proofs.Growing.{is_text_from}
use Rattle.lexscan_matching.proofs.back.is_text.Goals as goal

pub returns : goal.returns
returns c = is_text_from c.args.bytes.now (λ i. omega (arith, c.type_inv.bytes i))
