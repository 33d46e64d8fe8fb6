use Rattle.std.proofs.Common.{take}
use Rattle.lexlook_suites.specs.Texts.{AreTexts}
use Rattle.lexlook_suites.proofs.texts.texts_of.Given as goal

abbrev pub invariant-loop-edge : goal.invariant-loop-edge
invariant-loop-edge l = AreTexts l.dfa.parts (take l.edge-index l.edges) l.texts.items
