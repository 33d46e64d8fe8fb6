-- How a scan by pieces follows from how it stood.
use Rattle.std.proofs.Common.{◌≡◌, List, ℕ, [], ◌++◌, refl, sym, subst, append-nil}
use Rattle.liblex_calls.specs.Backlogs.{rest}
use Rattle.liblex_calls.specs.Progress.{Continues, Follows}
use Rattle.liblex_calls.specs.declared.stage.Stage.{Stage}
use Rattle.liblex_calls.specs.declared.stage.Stage.TheVariants as stages
use Rattle.liblex_calls.specs.declared.piece_scan.PieceScan.{PieceScan}

-- where nothing is done
pub unchanged : (stage : Stage) (waited : List ℕ) → Continues stage waited stage waited
unchanged stages.Going waited = ([], sym (append-nil waited))
unchanged (stages.Ended status) waited = (refl, refl)
unchanged stages.Stack waited = (refl, refl)
unchanged stages.OutOfMemory waited = (refl, refl)
unchanged stages.TooManyReads waited = (refl, refl)

-- where the scan goes on, and more is written
pub written_on : (stage after : Stage) (waited put bytes : List ℕ) → stage ≡ stages.Going → bytes ≡ waited ++ put → Continues stage waited after bytes
written_on stage after waited put bytes is more = subst (λ s. Continues s waited after bytes) (sym is) (put, more)

-- where the first of the bytes are handed out
pub handed_on : (p m q : PieceScan) (handed : List ℕ) → Follows p [] m → q.stage ≡ m.stage → handed ++ rest q.backlog ≡ rest m.backlog → Follows p handed q
handed_on p m q handed follows stage all =
    subst (λ s. Continues p.stage (rest p.backlog) s (handed ++ rest q.backlog)) (sym stage)
    (subst (λ bytes. Continues p.stage (rest p.backlog) m.stage bytes) (sym all) follows)
