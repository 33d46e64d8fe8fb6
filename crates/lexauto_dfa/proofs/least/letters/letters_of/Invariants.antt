use Rattle.lexauto_dfa.specs.Columns.{HaveLetters}
use Rattle.lexauto_dfa.proofs.least.letters.letters_of.Given as goal

abbrev pub invariant-loop-byte : goal.invariant-loop-byte
invariant-loop-byte l = HaveLetters l.next l.firsts.items l.states l.letters.items l.byte
