use Rattle.std.proofs.Common.{◌++◌, ap, ◌∙◌, refl}
use Rattle.liblex_calls.specs.Backlogs.{rest}
use Rattle.liblex_calls.proofs.Piecing.{end_progress, end_still}
use Rattle.liblex_calls.proofs.Following.{unchanged, written_on}
use Rattle.liblex_calls.proofs.piece_scan.PieceScan.end.Goals as goal

pub returns-in_default-clause-progress : goal.returns-in_default-clause-progress
returns-in_default-clause-progress c file told fed out P = end_still file told fed out c.args.self.now c.in_default.not-Going P

pub returns-clause-progress : goal.returns-clause-progress
returns-clause-progress c file told fed out P =
    let (put, wrote, after) = c.finish.ensures.finished in
    end_progress file told fed out c.args.self.now _ P put c.finish.ensures.machine (wrote ∙ ap (λ l. l ++ put) c.begin.ensures.bytes)
    c.finish.result c.in-Going.is c.after_finish-self.ensures refl after c.finish.ensures.too_many

pub returns-in_default-clause-follows : goal.returns-in_default-clause-follows
returns-in_default-clause-follows c = unchanged c.args.self.now.stage (rest c.args.self.now.backlog)

pub returns-clause-follows : goal.returns-clause-follows
returns-clause-follows c =
    let (put, wrote, after) = c.finish.ensures.finished in
    written_on c.args.self.now.stage _ (rest c.args.self.now.backlog) put _ c.in-Going.is (wrote ∙ ap (λ l. l ++ put) c.begin.ensures.bytes)
