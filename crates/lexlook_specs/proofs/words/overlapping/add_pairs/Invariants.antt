use Rattle.lexlook_specs.specs.Matches.{matches_in}
use Rattle.lexlook_specs.specs.Pairing.{IsUpTo}
use Rattle.lexlook_specs.proofs.words.overlapping.add_pairs.Given as goal

abbrev pub invariant-loop-second : goal.invariant-loop-second
invariant-loop-second l = IsUpTo (matches_in l.dfa.parts l.rejects) l.most l.first l.second l.overlaps.items
