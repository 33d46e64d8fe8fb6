use Rattle.std.proofs.Common.{sym, subst, refl}
use Rattle.liblex_calls.specs.Told.{FeedTells}
use Rattle.liblex_calls.specs.declared.answer.Answer.{Answer}
use Rattle.liblex_calls.proofs.Flowing.{feed_again}
use Rattle.liblex_calls.proofs.token_scan.TokenScan.feed.Goals as goal

pub returns-in_default-clause-fed : goal.returns-in_default-clause-fed
returns-in_default-clause-fed c file lines told fed tokens text T =
    let p = c.args.self.now in
    subst (λ (a : Answer). FeedTells file lines told fed c.args.piece.now tokens text p a) (sym c.feed_answer.ensures) (feed_again file lines told fed c.args.piece.now tokens text p p.stage refl c.in_default.not-Going T)
