use Rattle.std.proofs.Common.{arith}
use Rattle.lex_machine.proofs.Growing.{is_text_from}
use Rattle.lexlook_suites.proofs.gathering.joined.Goals as goal

pub returns-clause-path : goal.returns-clause-path
returns-clause-path c = is_text_from c.args.path.now (λ k. let f = c.type_inv.path k in omega (arith, f))
