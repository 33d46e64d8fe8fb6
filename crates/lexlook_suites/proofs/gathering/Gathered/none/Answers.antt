use Rattle.lexlook_suites.specs.Gathers.{rules_by}
use Rattle.lexlook_suites.proofs.Collected.{none_gathered}
use Rattle.lexlook_suites.proofs.gathering.Gathered.none.Goals as goal

pub returns : goal.returns
returns c = none_gathered (rules_by c.args.machine.now) c.args.dfa.now.parts (record { inputs = c.new-inputs.result; marks = c.in_ok-marks.marks }) c.new-inputs.ensures.items c.in_ok-marks.ensures
