use Rattle.std.proofs.Common.{◌≡◌, [], false, sym, subst}
use Rattle.liblex_calls.specs.Told.{Told}
use Rattle.liblex_calls.specs.declared.stage.Stage.TheVariants as stages
use Rattle.liblex_calls.specs.declared.token_scan.TokenScan.{TokenScan}
use Rattle.liblex_calls.proofs.streaming.open_with.Goals as goal

pub returns : goal.returns
returns c file is = (
  (
    c.in-Ok.held.value,
    c.put.ensures,
    subst (Told file c.args.lines false [] [] []) (sym c.in-Ok.ensures.ok) (c.new.ensures.told file is),
  ),
  (c.in-Ok.held.value, c.put.ensures, subst (λ (p : TokenScan). p.stage ≡ stages.Going) (sym c.in-Ok.ensures.ok) c.new.ensures.going),
)
