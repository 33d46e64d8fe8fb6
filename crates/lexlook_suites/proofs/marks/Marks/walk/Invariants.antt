use Rattle.std.proofs.Common.{◌-◌, ◌<◌, ◌≤◌, length, drop}
use Rattle.lexauto_dfa.specs.Automata.{states_of}
use Rattle.lexlook_suites.specs.Passed.{ArePassed}
use Rattle.lexlook_suites.proofs.Walked.{Walking}
use Rattle.lexlook_suites.proofs.marks.Marks.walk.Given as goal

abbrev pub invariant-bytes : goal.invariant-bytes
invariant-bytes l = record {
  known : l.state < states_of l.dfa;
  within : l.count ≤ length l.text;
  walking : Walking l.dfa.parts (states_of l.dfa) l.fn.self l.self l.fn.start l.text l.state (drop l.count l.text);
  passed : ArePassed l.dfa.parts l.self l.input l.memo;
}

abbrev pub decreases-bytes : goal.decreases-bytes
decreases-bytes l = length l.text - l.count
