use Rattle.std.proofs.Common.{◌≡◌, [], false, sym, subst}
use Rattle.liblex_calls.specs.Progress.{Progress}
use Rattle.liblex_calls.specs.declared.stage.Stage.TheVariants as stages
use Rattle.liblex_calls.specs.declared.piece_scan.PieceScan.{PieceScan}
use Rattle.liblex_calls.proofs.by_pieces.open_with.Goals as goal

pub returns : goal.returns
returns c file is = (
  (
    c.in-Ok.held.value,
    c.put.ensures,
    subst (Progress file false [] []) (sym c.in-Ok.ensures.ok) (c.new.ensures.progress file is),
  ),
  (c.in-Ok.held.value, c.put.ensures, subst (λ (p : PieceScan). p.stage ≡ stages.Going) (sym c.in-Ok.ensures.ok) c.new.ensures.going),
)
