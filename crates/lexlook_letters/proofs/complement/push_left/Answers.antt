use Rattle.std.proofs.Common.{◌+◌, min, max, arith}
use Rattle.std.proofs.lemmas.Result.{on_ok_weaker}
use Rattle.lexlook_letters.proofs.Apart.{between_as, replaced}
use Rattle.lexlook_letters.proofs.Remainders.{between_points, both_sides}
use Rattle.lexlook_letters.proofs.complement.push_left.Goals as goal

pub returns-clause-points : goal.returns-clause-points
returns-clause-points c =
    let piece = c.args.piece in
    let taken = c.args.taken in
    on_ok_weaker c.push_between-2.result (λ two. both_sides _ _ _ piece taken
    (between_points _ _ _ _ (between_as _ _ _ _ piece.first (min (piece.last + 1) taken.first) (omega arith) (omega arith) c.in_ok-push_between.ensures))
    (between_points _ _ _ _ (between_as _ _ _ _ (max piece.first (taken.last + 1)) (piece.last + 1) (omega arith) (omega arith) two))) c.push_between-2.ensures

pub returns-clause-apart : goal.returns-clause-apart
returns-clause-apart c =
    let piece = c.args.piece in
    let taken = c.args.taken in
    on_ok_weaker c.push_between-2.result (λ two. replaced _ _ _ piece taken c.requires
    (between_as _ _ _ _ piece.first (min (piece.last + 1) taken.first) (omega arith) (omega arith) c.in_ok-push_between.ensures)
    (between_as _ _ _ _ (max piece.first (taken.last + 1)) (piece.last + 1) (omega arith) (omega arith) two)) c.push_between-2.ensures
