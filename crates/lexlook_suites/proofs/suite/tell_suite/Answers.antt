use Rattle.std.proofs.Common.{◌∙◌, List, ℕ, subst, sym}
use Rattle.lexlook_suites.proofs.suite.tell_suite.Goals as goal

pub returns-in-Err-put-clause-told : goal.returns-in-Err-put-clause-told
returns-in-Err-put-clause-told g c =
    let h = c.in-Err-put.ensures.bytes in
    let lines = c.as_slice.ensures.value ∙ c.in-Ok-lines.ensures in
    (c.in-Ok.suite, c.in-Ok.ensures.made, (h.0, (h.1.0, sym lines ∙ h.1.1), h.2))

pub returns-clause-told : goal.returns-clause-told
returns-clause-told g c =
    let lines = c.as_slice.ensures.value ∙ c.in-Ok-lines.ensures in
    (c.in-Ok.suite, c.in-Ok.ensures.made, subst (λ (l : List ℕ). g.K.Sink.wrote c.args.sink.now l c.put.new.self) lines c.in-Ok-put.ensures.bytes)
