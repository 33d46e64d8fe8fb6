use Rattle.std.proofs.Common.{ℕ, ◌<◌, sym, subst, arith}
use Rattle.lex_semantics.specs.Machine.{Machine}
use Rattle.lexlook_counts.specs.FarWalks.{AreTrueOf}
use Rattle.lexlook_counts.proofs.Walked.{marks_fit}
use Rattle.lexlook_counts.proofs.looking.look_far.Goals as goal
use Rattle.lexlook_counts.proofs.looking.look_far.Goals.{then-near-walk, else-near-walk}

pub returns-else-walk-eq0-clause-marks : goal.returns-else-walk-eq0-clause-marks
returns-else-walk-eq0-clause-marks g c given le held ms =
    let M : Machine = g.M.Machine.machine c.args.machine.now in
    let states : ℕ = g.M.Machine.states c.args.machine.now in
    let some : 0 < states = omega (arith, c.requires.first) in
    elim c.if-near-walk.branch [
      | then-near-walk w ↦ subst (AreTrueOf M states given) (sym w.memo-is) (w.note.ensures given le held (marks_fit M states given c.args.memo.now w.fit.new.self some ms w.fit.ensures))
      | else-near-walk w ↦ subst (AreTrueOf M states given) (sym w.memo-is) ms
    ]
