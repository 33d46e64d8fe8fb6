use Rattle.std.proofs.Common.{take}
use Rattle.lexauto.specs.Moving.{AreLetters}
use Rattle.lexauto.proofs.alphabet.alphabet_of.Given as goal

abbrev pub invariant-loop-letter : goal.invariant-loop-letter
invariant-loop-letter l = AreLetters (take l.letter-index l.all) l.alphabet.letters.items l.alphabet.places.items
