use Rattle.std.proofs.Common.{Bool, [], ap, sym, subst}
use Rattle.lexscan.specs.Pulls.{TokensTold}
use Rattle.lexscan.specs.Scanners.{pull_state, pull_waiting}
use Rattle.liblex_calls.specs.Rules.{rules_machine}
use Rattle.liblex_calls.proofs.Gathered.{not_whole}
use Rattle.liblex_calls.proofs.gathering.WholeScan.new.Goals as goal

pub returns-clause-feeds : goal.returns-clause-feeds
returns-clause-feeds c input =
    let s = c.new.result in
    record {
      machine = ap rules_machine c.new.ensures.machine;
      whole = λ e. absurd (not_whole _ c.new.ensures.unfinished e);
      told = subst (λ (b : Bool). TokensTold (rules_machine c.args.rules) [] b [] (pull_state s) (pull_waiting s)) (sym c.new.ensures.unfinished) c.new.ensures.told;
    }
