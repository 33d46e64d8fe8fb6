use Rattle.std.proofs.Common.{[], ◌++◌, false, refl, sym, ap, subst}
use Rattle.liblex_calls.specs.Rules.{rules_machine}
use Rattle.liblex_calls.specs.Files.{IsMachineOf}
use Rattle.liblex_calls.specs.Progress.{StandsAt}
use Rattle.liblex_calls.specs.declared.stage.Stage.TheVariants as stages
use Rattle.liblex_calls.proofs.Piecing.{first_stands}
use Rattle.liblex_calls.proofs.piece_scan.PieceScan.new.Goals as goal

pub returns-clause-going : goal.returns-clause-going
returns-clause-going c = refl

pub returns-clause-progress : goal.returns-clause-progress
returns-clause-progress c file is =
    let same = ap rules_machine c.new.ensures.machine in
    let s = c.new.result.scan.state in let w = c.new.result.waiting.items in
    let stands = subst (λ N. StandsAt N stages.Going false [] [] s w) (sym same) (first_stands (rules_machine c.args.rules) s w c.new.ensures.fed c.new.ensures.going) in
    record {
      machine = subst (IsMachineOf file) (sym same) is;
      text = tt;
      finished = refl;
      stands = subst (λ l. StandsAt (rules_machine c.new.result.machine) stages.Going false [] l s w) (sym (ap (λ l. [] ++ l) c.new-2.ensures)) stands;
    }
