use Rattle.lexauto_reports.proofs.Entered.{back_words_are}
use Rattle.lexauto_reports.proofs.backing.backing_up.Goals as goal

pub returns-clause-back_words : goal.returns-clause-back_words
returns-clause-back_words c = λ S count table s.
    let e = back_words_are c.args.dfa.now.parts S count table s in
    let a = c.in_ok-entries.ensures.states s in
    (λ m. e.0 (a.0 m), λ b. a.1 (e.1 b))
