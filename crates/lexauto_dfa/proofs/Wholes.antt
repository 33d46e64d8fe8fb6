-- An automaton's lists have all its states.
use Rattle.std.proofs.Common.{ℕ, length, ◌∙◌, Vec, Global}
use Rattle.std.proofs.lemmas.List.{length-map}
use Rattle.std.specs.declared.rc.Rc.{Rc}
use Rattle.lexauto_dfa.specs.Invariant.{IsAutomaton}
use Rattle.lexauto_dfa.specs.declared.dfa.Parts.{Parts}
use Rattle.lexauto_dfa.specs.LeastTables.{IsWhole}
use Rattle.lexauto_dfa.specs.Views.{automaton_of}
use Rattle.lexauto_dfa.proofs.ByTurns.{turns_below}

pub is_whole : (p : Parts) → IsAutomaton p → IsWhole (automaton_of p)
is_whole p a = record {
  some = a.some;
  rows = a.rows;
  all = length-map p.accepts.items (λ (v : Rc (Vec ℕ Global) Global). v.value.items) ∙ a.lists;
  starts_known = turns_below p.starts.items p.line_starts.items (length p.goes_on.items) a.lines a.starts_known a.lines_known;
  targets_known = a.next_known;
}
