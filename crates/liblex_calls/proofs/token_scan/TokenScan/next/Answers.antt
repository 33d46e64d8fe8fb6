use Rattle.std.proofs.Common.{sym, subst}
use Rattle.liblex_calls.specs.Told.{Told, NextTells}
use Rattle.liblex_calls.specs.declared.token_scan.NextToken.{NextToken}
use Rattle.liblex_calls.proofs.token_scan.TokenScan.next.Goals as goal

pub returns-then-hand_next-clause-told : goal.returns-then-hand_next-clause-told
returns-then-hand_next-clause-told c file lines told fed tokens text T = c.hand_next.ensures.told file lines told fed tokens text c.if-hand_next.true T

pub returns-clause-told : goal.returns-clause-told
returns-clause-told c file lines told fed tokens text T =
    let same = c.hand_next.ensures.same c.if-hand_next.false in
    subst (λ (t : NextToken). NextTells file lines told fed tokens c.find_next.new.self t c.find_next.new.token c.find_next.new.status c.find_next.result) same.1
    (c.find_next.ensures.told file lines told fed tokens text (subst (Told file lines told fed tokens text) (sym same.0) T))
