use Rattle.std.proofs.Common.{◌≡◌, refl, sym, subst, ◌∙◌}
use Rattle.liblex_calls.specs.Told.{Told, TellsAgain}
use Rattle.liblex_calls.specs.declared.token_scan.TokenScan.{TokenScan}
use Rattle.liblex_calls.proofs.Opened.{some_of, same_there}
use Rattle.liblex_calls.proofs.streaming.next_token.Goals as goal

pub scan-requires : goal.scan-requires
scan-requires c = some_of c.args.stream.now.place.value (sym c.is_open.ensures ∙ c.if-not-is_open.false)

pub returns-clause-told : goal.returns-clause-told
returns-clause-told c file lines told fed tokens text (p, is, T) =
    let e : c.scan.result.now ≡ p = same_there c.args.stream.now.place.value c.scan.result.now p c.scan.ensures.value is in
    let before : Told file lines told fed tokens text c.scan.result.now = subst (Told file lines told fed tokens text) (sym e) T in
    (c.next.new.self, refl, c.next.ensures.told file lines told fed tokens text before)

pub returns-clause-again : goal.returns-clause-again
returns-clause-again c p is =
    let e : c.scan.result.now ≡ p = same_there c.args.stream.now.place.value c.scan.result.now p c.scan.ensures.value is in
    (c.next.new.self, refl, subst (λ (x : TokenScan). TellsAgain x c.next.new.self c.next.result) e c.next.ensures.again)
