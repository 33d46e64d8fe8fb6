use Rattle.std.proofs.Common.{◌++◌, codes, List, ℕ}
use Rattle.lexauto_reports.proofs.Parts.{longer, appended_after}
use Rattle.lexkit.specs.Faults.{with_newline, fault_words}
use Rattle.lexkit.proofs.faults.write_fault.Goals as goal

pub returns-in-Err-clause-bytes : goal.returns-in-Err-clause-bytes
returns-in-Err-clause-bytes g c = let some = c.in-Err.ensures.bytes in
    (some.0, (some.1.0 ++ with_newline (fault_words c.args.fault), longer (codes "lex: ") some.0 some.1.0 _ some.1.1), some.2)

pub returns-clause-bytes : goal.returns-clause-bytes
returns-clause-bytes g c =
    let words : List ℕ = with_newline (fault_words c.args.fault) in
    let before : List ℕ → Type 0 = λ xs. g.K.Sink.wrote c.args.sink.now xs c.write_words.new.sink in
    let after : List ℕ → Type 0 = λ xs. g.K.Sink.wrote c.put.new.self xs c.write_words.new.sink in
    let join : (xs : List ℕ) → after xs → before (codes "lex: " ++ xs) = λ xs. g.met.K.Sink.wrote_more _ _ c.write_words.new.sink (codes "lex: ") xs c.in_default.ensures.bytes in
    appended_after before after (codes "lex: ") words c.write_words.result join c.write_words.ensures.bytes
