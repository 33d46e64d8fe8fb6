use Rattle.std.proofs.Common.{◌++◌, ap, ◌∙◌, arith, refl}
use Rattle.lex_machine.proofs.Growing.{is_text_from}
use Rattle.liblex_calls.specs.Backlogs.{rest}
use Rattle.liblex_calls.proofs.Piecing.{fed_progress, fed_still}
use Rattle.liblex_calls.proofs.Following.{unchanged, written_on}
use Rattle.liblex_calls.proofs.piece_scan.PieceScan.take.Goals as goal

pub returns-in_default-clause-progress : goal.returns-in_default-clause-progress
returns-in_default-clause-progress c file told fed out P = fed_still file told fed out c.args.piece.now c.args.self.now (is_text_from c.args.piece.now (λ k. omega (arith, c.type_inv.piece k))) c.in_default.not-Going P

pub returns-clause-progress : goal.returns-clause-progress
returns-clause-progress c file told fed out P =
    let (put, wrote, after) = c.feed.ensures.fed in
    fed_progress file told fed out c.args.self.now _ P put c.feed.ensures.machine (wrote ∙ ap (λ l. l ++ put) c.begin.ensures.bytes) c.args.piece.now
    (is_text_from c.args.piece.now (λ k. omega (arith, c.type_inv.piece k))) c.feed.result c.in-Going.is c.after_feed-self.ensures refl after c.feed.ensures.too_many

pub returns-in_default-clause-follows : goal.returns-in_default-clause-follows
returns-in_default-clause-follows c = unchanged c.args.self.now.stage (rest c.args.self.now.backlog)

pub returns-clause-follows : goal.returns-clause-follows
returns-clause-follows c =
    let (put, wrote, after) = c.feed.ensures.fed in
    written_on c.args.self.now.stage _ (rest c.args.self.now.backlog) put _ c.in-Going.is (wrote ∙ ap (λ l. l ++ put) c.begin.ensures.bytes)
