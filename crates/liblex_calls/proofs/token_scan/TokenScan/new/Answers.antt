use Rattle.std.proofs.Common.{[], false, ◌∙◌}
use Rattle.lexscan.specs.Scanners.{pull_state, pull_waiting}
use Rattle.liblex_calls.specs.Rules.{rules_machine}
use Rattle.liblex_calls.specs.declared.stage.Stage.TheVariants as stages
use Rattle.liblex_calls.specs.declared.token_scan.TokenScan.{TokenScan}
use Rattle.liblex_calls.proofs.Flowing.{told_by}
use Rattle.liblex_calls.proofs.Heading.{first_ahead, shows_told}
use Rattle.liblex_calls.proofs.token_scan.TokenScan.new.Goals as goal

pub returns-clause-told : goal.returns-clause-told
returns-clause-told c file is =
    let s = c.new.result in
    let a = c.new-2.result in
    let q : TokenScan = record { scanner = s; ahead = a; stage = stages.Going; lines = c.new-3.result; turns = 0 } in
    let e = c.new-2.ensures in
    told_by file c.args.lines false [] [] [] q c.args.rules c.new.ensures.machine is tt c.new.ensures.unfinished (shows_told s a e.given ∙ c.new.ensures.text) e.holds c.new-3.ensures.counts c.new-3.ensures.counted
    (first_ahead (rules_machine c.args.rules) (pull_state s) (pull_waiting s) a c.new.ensures.told e.none e.given e.last e.before)
