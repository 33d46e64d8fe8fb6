use Rattle.std.proofs.Common.{◌++◌, List, ℕ}
use Rattle.lexauto_reports.proofs.Parts.{longer, appended_after}
use Rattle.lexkit.specs.Faults.{with_newline}
use Rattle.lexlook.specs.Failures.{failure_front, failure_words}
use Rattle.lexlook.proofs.failure.write_failure.Goals as goal

pub returns-in-Err-clause-bytes : goal.returns-in-Err-clause-bytes
returns-in-Err-clause-bytes g c = let some = c.in-Err.ensures.bytes in
    (some.0, (some.1.0 ++ with_newline (failure_words c.args.failure.now), longer (failure_front c.args.failure.now) some.0 some.1.0 _ some.1.1), some.2)

pub returns-clause-bytes : goal.returns-clause-bytes
returns-clause-bytes g c =
    let front : List ℕ = failure_front c.args.failure.now in
    let words : List ℕ = with_newline (failure_words c.args.failure.now) in
    let before : List ℕ → Type 0 = λ xs. g.K.Sink.wrote c.args.sink.now xs c.put_words.new.sink in
    let after : List ℕ → Type 0 = λ xs. g.K.Sink.wrote c.put_front.new.sink xs c.put_words.new.sink in
    let join : (xs : List ℕ) → after xs → before (front ++ xs) = λ xs. g.met.K.Sink.wrote_more _ _ c.put_words.new.sink front xs c.in_default.ensures.bytes in
    appended_after before after front words c.put_words.result join c.put_words.ensures.bytes
