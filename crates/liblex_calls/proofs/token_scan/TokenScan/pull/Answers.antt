use Rattle.std.proofs.Common.{refl}
use Rattle.liblex_calls.specs.declared.token_scan.TokenScan.{TokenScan}
use Rattle.liblex_calls.proofs.Flowing.{kept_handed, none_left}
use Rattle.liblex_calls.proofs.token_scan.TokenScan.pull.Goals as goal

pub returns-in-Some-clause-told : goal.returns-in-Some-clause-told
returns-in-Some-clause-told c file lines told fed tokens text T =
    let p = c.args.self.now in
    let q : TokenScan = record { scanner = p.scanner; ahead = c.next.new.self; stage = p.stage; lines = p.lines; turns = p.turns } in
    c.hand_on.ensures file lines told fed tokens (kept_handed file lines told fed tokens text p q c.in-Some.found c.in-Going.is T c.in-Some.ensures refl refl refl)

pub returns-in-None-clause-told : goal.returns-in-None-clause-told
returns-in-None-clause-told c file lines told fed tokens text T =
    c.pull_several.ensures file lines told fed tokens text (none_left file lines told fed tokens text c.args.self.now c.next.new.self c.in-None.ensures.0 T)
