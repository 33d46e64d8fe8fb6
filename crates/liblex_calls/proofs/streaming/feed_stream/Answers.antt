use Rattle.std.proofs.Common.{◌≡◌, sym, subst, ◌∙◌}
use Rattle.liblex_calls.specs.Told.{Told, TellsAgain}
use Rattle.liblex_calls.specs.declared.token_scan.TokenScan.{TokenScan}
use Rattle.liblex_calls.proofs.streaming.feed_stream.Goals as goal

pub returns-clause-fed : goal.returns-clause-fed
returns-clause-fed c file lines told fed tokens text (p, is, T) =
    let e : c.deref_mut.result.now ≡ p = c.deref_mut.ensures.value ∙ c.in-Some.ensures.value p is in (
      c.feed-answer.new.self,
      c.put.ensures,
      c.feed-answer.ensures.fed file lines told fed tokens text (subst (Told file lines told fed tokens text) (sym e) T),
    )

pub returns-clause-again : goal.returns-clause-again
returns-clause-again c p is =
    let e : c.deref_mut.result.now ≡ p = c.deref_mut.ensures.value ∙ c.in-Some.ensures.value p is in (
      c.feed-answer.new.self,
      c.put.ensures,
      subst (λ (x : TokenScan). TellsAgain x c.feed-answer.new.self c.feed-answer.result) e c.feed-answer.ensures.again,
    )
