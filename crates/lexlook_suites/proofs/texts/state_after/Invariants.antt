use Rattle.std.proofs.Common.{◌≡◌, ◌<◌, drop}
use Rattle.lexauto_dfa.specs.Automata.{start_of, states_of}
use Rattle.lexauto_dfa.specs.Parts.{after}
use Rattle.lexlook_suites.proofs.texts.state_after.Given as goal

abbrev pub invariant-loop-byte : goal.invariant-loop-byte
invariant-loop-byte l = record {
  known : l.state < states_of l.dfa;
  walked : after l.dfa.parts l.state (drop l.byte-index l.word) ≡ after l.dfa.parts (start_of l.dfa l.fn.start.condition l.fn.start.line_start) l.word;
}
