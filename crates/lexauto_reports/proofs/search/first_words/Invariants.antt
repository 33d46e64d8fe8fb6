use Rattle.std.proofs.Common.{◌+◌, ◌-◌, length}
use Rattle.lexauto_reports.specs.Searching.{unfound, words_of, states_of_groups, IsUpTo}
use Rattle.lexauto_reports.proofs.search.first_words.Given as goal

abbrev pub invariant-loop-place : goal.invariant-loop-place
invariant-loop-place l = IsUpTo l.dfa.parts (words_of l.groups) (states_of_groups l.groups) l.places.items l.place

abbrev pub decreases-loop-place : goal.decreases-loop-place
decreases-loop-place l = length l.groups.groups.items + unfound l.places.items - l.place
