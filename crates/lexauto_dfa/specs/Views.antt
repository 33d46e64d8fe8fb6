-- An automaton as one list of starts and one table.
use Rattle.std.specs.Prelude.{length}
use Rattle.lexauto_dfa.specs.Parts.{lists_in}
use Rattle.lexauto_dfa.specs.declared.dfa.Parts.{Parts}
use Rattle.lexauto_dfa.specs.LeastTables.{Automaton}
use Rattle.lexauto_dfa.specs.Least.{by_turns}

abbrev pub automaton_of : Parts → Automaton
automaton_of p = record {
  states = length p.goes_on.items;
  starts = by_turns p.starts.items p.line_starts.items;
  table = p.next.items;
  lists = lists_in p;
}
