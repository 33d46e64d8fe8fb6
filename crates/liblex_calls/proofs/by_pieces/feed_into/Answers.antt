use Rattle.std.proofs.Common.{◌≡◌, take, sym, subst, ◌∙◌}
use Rattle.liblex_calls.specs.Progress.{Progress, Follows}
use Rattle.liblex_calls.specs.declared.piece_scan.PieceScan.{PieceScan}
use Rattle.liblex_calls.proofs.by_pieces.feed_into.Goals as goal

pub returns-clause-fed : goal.returns-clause-fed
returns-clause-fed c file told fed out (p, is, P) =
    let e : c.deref_mut.result.now ≡ p = c.deref_mut.ensures.value ∙ c.in-Some.ensures.value p is in (
      c.feed-answer.new.self,
      c.put.ensures,
      c.feed-answer.ensures.fed file told fed out (subst (Progress file told fed out) (sym e) P),
      c.feed-answer.ensures.answer,
    )

pub returns-clause-follows : goal.returns-clause-follows
returns-clause-follows c p is =
    let e : c.deref_mut.result.now ≡ p = c.deref_mut.ensures.value ∙ c.in-Some.ensures.value p is in (
      c.feed-answer.new.self,
      c.put.ensures,
      subst (λ (x : PieceScan). Follows x (take c.feed-answer.new.count c.feed-answer.new.buffer) c.feed-answer.new.self) e c.feed-answer.ensures.follows,
    )
