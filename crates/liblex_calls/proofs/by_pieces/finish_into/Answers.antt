use Rattle.std.proofs.Common.{◌≡◌, take, sym, subst, ◌∙◌}
use Rattle.liblex_calls.specs.Progress.{Progress, Follows}
use Rattle.liblex_calls.specs.declared.piece_scan.PieceScan.{PieceScan}
use Rattle.liblex_calls.proofs.by_pieces.finish_into.Goals as goal

pub returns-clause-finished : goal.returns-clause-finished
returns-clause-finished c file told fed out (p, is, P) =
    let e : c.deref_mut.result.now ≡ p = c.deref_mut.ensures.value ∙ c.in-Some.ensures.value p is in (
      c.finish-answer.new.self,
      c.put.ensures,
      c.finish-answer.ensures.finished file told fed out (subst (Progress file told fed out) (sym e) P),
      c.finish-answer.ensures.answer,
      c.finish-answer.ensures.status,
    )

pub returns-clause-follows : goal.returns-clause-follows
returns-clause-follows c p is =
    let e : c.deref_mut.result.now ≡ p = c.deref_mut.ensures.value ∙ c.in-Some.ensures.value p is in (
      c.finish-answer.new.self,
      c.put.ensures,
      subst (λ (x : PieceScan). Follows x (take c.finish-answer.new.count c.finish-answer.new.buffer) c.finish-answer.new.self) e c.finish-answer.ensures.follows,
    )
