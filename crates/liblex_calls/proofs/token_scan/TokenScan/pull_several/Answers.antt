use Rattle.std.proofs.Common.{◌-◌, [], refl}
use Rattle.liblex_calls.specs.declared.token_scan.TokenScan.{TokenScan}
use Rattle.liblex_calls.proofs.Flowing.{by_turns, kept_handed, none_left, told_ahead}
use Rattle.liblex_calls.proofs.token_scan.TokenScan.pull_several.Goals as goal

pub returns-then-none_given : goal.returns-then-none_given
returns-then-none_given c file lines told fed tokens text T =
    c.pull_one.ensures file lines told fed tokens text (by_turns file lines told fed tokens text c.args.self.now (c.args.self.now.turns - 1) T)

pub returns-in-Some : goal.returns-in-Some
returns-in-Some c file lines told fed tokens text T =
    let p = c.args.self.now in
    let m : TokenScan = record { scanner = c.tell.new.scanner; ahead = c.tell.new.self; stage = p.stage; lines = p.lines; turns = p.turns } in
    let q : TokenScan = record { scanner = c.tell.new.scanner; ahead = c.next.new.self; stage = p.stage; lines = p.lines; turns = p.turns } in
    let U = told_ahead file lines told fed tokens text p m c.requires.going T c.tell.ensures.machine c.tell.ensures.finished c.tell.ensures.text c.tell.ensures.texts (c.tell.ensures.told fed tokens) refl refl in
    c.hand_on.ensures file lines told fed tokens (kept_handed file lines told fed tokens [] m q c.in-Some.found c.requires.going U c.in-Some.ensures refl refl refl)

pub returns-in-None : goal.returns-in-None
returns-in-None c file lines told fed tokens text T =
    let p = c.args.self.now in
    let m : TokenScan = record { scanner = c.tell.new.scanner; ahead = c.tell.new.self; stage = p.stage; lines = p.lines; turns = p.turns } in
    let U = told_ahead file lines told fed tokens text p m c.requires.going T c.tell.ensures.machine c.tell.ensures.finished c.tell.ensures.text c.tell.ensures.texts (c.tell.ensures.told fed tokens) refl refl in
    let n : TokenScan = record m { ahead = c.next.new.self } in
    c.pull_one-in-None.ensures file lines told fed tokens [] (by_turns file lines told fed tokens [] n 8 (none_left file lines told fed tokens [] m c.next.new.self c.in-None.ensures.0 U))
