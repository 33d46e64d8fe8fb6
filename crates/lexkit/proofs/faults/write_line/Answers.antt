use Rattle.std.proofs.Common.{◌++◌, [], ◌∷◌, List, ℕ}
use Rattle.lexauto_reports.specs.Joined.{joined}
use Rattle.lexauto_reports.proofs.Parts.{longer, appended_after}
use Rattle.lexkit.proofs.faults.write_line.Goals as goal

pub returns-in-Err-clause-bytes : goal.returns-in-Err-clause-bytes
returns-in-Err-clause-bytes g c = let some = c.in-Err.ensures.bytes in
    (some.0, (some.1.0 ++ (10 ∷ []), longer (joined c.args.parts.now) some.0 some.1.0 (10 ∷ []) some.1.1), some.2)

pub returns-clause-bytes : goal.returns-clause-bytes
returns-clause-bytes g c =
    let parts : List ℕ = joined c.args.parts.now in
    let before : List ℕ → Type 0 = λ xs. g.K.Sink.wrote c.args.sink.now xs c.put.new.self in
    let after : List ℕ → Type 0 = λ xs. g.K.Sink.wrote c.put_all.new.sink xs c.put.new.self in
    let join : (xs : List ℕ) → after xs → before (parts ++ xs) = λ xs. g.met.K.Sink.wrote_more _ _ c.put.new.self parts xs c.in_default.ensures.bytes in
    appended_after before after parts (10 ∷ []) c.put.result join c.put.ensures.bytes
