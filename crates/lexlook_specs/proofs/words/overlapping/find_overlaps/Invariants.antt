use Rattle.lexlook_specs.specs.Matches.{matches_in}
use Rattle.lexlook_specs.specs.Pairing.{IsUpTo}
use Rattle.lexlook_specs.proofs.words.overlapping.find_overlaps.Given as goal

abbrev pub invariant-loop-rule : goal.invariant-loop-rule
invariant-loop-rule l = IsUpTo (matches_in l.dfa.parts l.rejects) l.most l.rule 0 l.overlaps.items
