use Rattle.std.proofs.Common.{List, ℕ, drop}
use Rattle.lexlook_suites.proofs.Passing.{all_passed_more, passed_fit, passed_now}
use Rattle.lexlook_suites.proofs.marks.Marks.turn.Goals as goal

pub returns-then-saturating_add-count-clause-passed : goal.returns-then-saturating_add-count-clause-passed
returns-then-saturating_add-count-clause-passed c =
    let p = c.args.dfa.now.parts in
    let x : List ℕ = c.args.input.now in
    let m = c.walk-count.new.self in
    c.note.ensures m (passed_now p c.args.self.now m c.start_in-start.result (drop c.args.at x) c.walk-count.ensures)
    (passed_fit p m x c.args.memo.now c.fit.new.self c.args.dfa.now.lawful.dead_stays (all_passed_more p c.args.self.now m _ _ x c.args.memo.now c.walk-count.ensures c.requires.passed) c.fit.ensures)
