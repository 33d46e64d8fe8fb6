use Rattle.std.proofs.Common.{◌-◌, ◌<◌, ◌≤◌, length, drop}
use Rattle.lexauto_dfa.specs.Automata.{states_of}
use Rattle.lexlook_suites.specs.Passed.{ArePassed, IsPassed}
use Rattle.lexlook_suites.specs.declared.marks.Marks.{Marks}
use Rattle.lexlook_suites.proofs.marks.note.Given as goal

-- what the rest of the walk goes through is marked where all of it is
abbrev pub invariant-bytes : goal.invariant-bytes
invariant-bytes l = record {
  known : l.state < states_of l.dfa;
  within : l.walked ≤ length l.text;
  rest : (m : Marks) → IsPassed l.dfa.parts m l.fn.start l.text → IsPassed l.dfa.parts m l.state (drop l.walked l.text);
  passed : (m : Marks) → IsPassed l.dfa.parts m l.fn.start l.text → ArePassed l.dfa.parts m l.input l.fn.memo → ArePassed l.dfa.parts m l.input l.memo;
}

abbrev pub decreases-bytes : goal.decreases-bytes
decreases-bytes l = length l.text - l.walked
