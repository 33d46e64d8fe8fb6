use Rattle.std.proofs.Common.{ℕ, sym, subst}
use Rattle.liblex_calls.specs.Told.{NextTells}
use Rattle.liblex_calls.proofs.token_scan.TokenScan.find_next.Goals as goal

pub returns-clause-told : goal.returns-clause-told
returns-clause-told c file lines told fed tokens text T =
    subst (λ (n : ℕ). NextTells file lines told fed tokens c.pull-answer.new.self c.args.token.now c.pull-answer.new.token n c.pull-answer.result) (sym c.status.ensures) (c.pull-answer.ensures.told file lines told fed tokens text T)
