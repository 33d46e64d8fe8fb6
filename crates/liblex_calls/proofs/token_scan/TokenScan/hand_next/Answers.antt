use Rattle.std.proofs.Common.{refl}
use Rattle.liblex_calls.specs.declared.token_scan.TokenScan.{TokenScan}
use Rattle.liblex_calls.proofs.Flowing.{kept_handed}
use Rattle.liblex_calls.proofs.token_scan.TokenScan.hand_next.Goals as goal

pub returns-in-Some-clause-told : goal.returns-in-Some-clause-told
returns-in-Some-clause-told c file lines told fed tokens text so T =
    let p = c.args.self.now in
    let q : TokenScan = record { scanner = p.scanner; ahead = c.next.new.self; stage = p.stage; lines = p.lines; turns = p.turns } in
    let h = c.hand_on.ensures file lines told fed tokens (kept_handed file lines told fed tokens text p q c.in-Some.found c.in-Going.is T c.in-Some.ensures refl refl refl) in
    (h.0, h.1, h.2, refl, h.4, h.5, h.6)
