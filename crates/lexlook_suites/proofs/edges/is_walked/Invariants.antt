use Rattle.std.proofs.Common.{◌≡◌, false}
use Rattle.lexauto_dfa.specs.Automata.{next_of}
use Rattle.lexlook_suites.specs.Edges.{goes_below, marked_by}
use Rattle.lexlook_suites.proofs.edges.is_walked.Given as goal

abbrev pub invariant-loop-byte : goal.invariant-loop-byte
invariant-loop-byte l = goes_below (marked_by l.marks l.state) (next_of l.dfa l.state) l.target l.byte ≡ false
