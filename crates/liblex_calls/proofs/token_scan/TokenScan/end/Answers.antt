use Rattle.std.proofs.Common.{Bool, true, ◌++◌, subst, ◌∙◌}
use Rattle.lexscan.specs.Pulls.{TokensTold}
use Rattle.lexscan.specs.Scanners.{pull_machine, pull_state, pull_waiting}
use Rattle.liblex_calls.specs.Ahead.{tokens_ahead}
use Rattle.liblex_calls.specs.Told.{token_machine}
use Rattle.liblex_calls.specs.declared.token_scan.TokenScan.{TokenScan}
use Rattle.liblex_calls.proofs.Flowing.{told_by, end_stands}
use Rattle.liblex_calls.proofs.Heading.{end_ahead, shows_still}
use Rattle.liblex_calls.proofs.token_scan.TokenScan.end.Goals as goal

pub returns-clause-told : goal.returns-clause-told
returns-clause-told c file lines told fed tokens text T =
    let p = c.args.self.now in
    let q : TokenScan = record { scanner = c.finish.new.self; ahead = p.ahead; stage = p.stage; lines = p.lines; turns = p.turns } in
    let M = token_machine p in
    let all = tokens ++ tokens_ahead p.ahead in
    let more = subst (λ (b : Bool). TokensTold M fed b all (pull_state p.scanner) (pull_waiting p.scanner) → TokensTold M fed true all (pull_state q.scanner) (pull_waiting q.scanner)) T.finished (c.finish.ensures.told fed all) in
    told_by file lines true fed tokens text q (pull_machine p.scanner) c.finish.ensures.machine T.machine T.is_text c.finish.ensures.finished (shows_still p.scanner q.scanner p.ahead c.finish.ensures.text ∙ T.shows) T.held T.counts T.counted
    (end_stands M p.stage told fed tokens text (pull_state p.scanner) (pull_state q.scanner) (pull_waiting p.scanner) (pull_waiting q.scanner) p.ahead
    (end_ahead M fed told tokens (pull_state p.scanner) (pull_state q.scanner) (pull_waiting p.scanner) (pull_waiting q.scanner) p.ahead more) T.stands)
