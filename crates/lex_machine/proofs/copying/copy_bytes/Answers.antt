use Rattle.std.proofs.Common.{sym, subst, arith}
use Rattle.lex_semantics.specs.Text.{IsText}
use Rattle.lex_machine.proofs.Growing.{is_text_from}
use Rattle.lex_machine.proofs.copying.copy_bytes.Goals as goal

pub returns-clause-text : goal.returns-clause-text
returns-clause-text c = subst IsText (sym c.in_ok-copy.ensures.items) (is_text_from c.args.bytes.now (λ k. let f = c.type_inv.bytes k in omega (arith, f)))
