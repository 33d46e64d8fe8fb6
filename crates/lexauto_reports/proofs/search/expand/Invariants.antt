use Rattle.std.proofs.Common.{◌+◌, ◌≤◌, length}
use Rattle.lexauto_reports.specs.Searching.{unfound, words_of, states_of_groups, IsAt}
use Rattle.lexauto_reports.proofs.search.expand.Given as goal

abbrev pub invariant-loop-byte : goal.invariant-loop-byte
invariant-loop-byte l = record {
  here : IsAt l.dfa.parts (words_of l.groups) (states_of_groups l.groups) l.places.items l.place l.byte;
  fewer : length l.groups.groups.items + unfound l.places.items ≤ length l.fn.groups.groups.items + unfound l.fn.places.items;
}
