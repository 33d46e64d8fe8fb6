-- What a `Dfa` tells, and the machine that it is with a specification's actions. (This project's.)
use Rattle.std.specs.Prelude.{ℕ, Bool, false, List, [], length, slice_index_or, option_map, unwrap_or, slice_get}
use Rattle.lex_semantics.specs.Spec.{Spec, Whole, statements_at, end_at}
use Rattle.lex_semantics.specs.Machine.{Machine}
use Rattle.lexauto_dfa.specs.Invariant.{IsAutomaton}
use Rattle.lexauto_dfa.specs.Parts.{conditions, states, start, next, accepts, goes_on}
use Rattle.lexauto_dfa.specs.declared.dfa.Dfa.{Dfa}
use Rattle.lexauto_dfa.specs.declared.dfa.Parts.{Parts}

-- the lists of which it is made
abbrev pub lists_of : Dfa → Parts
lists_of d = d.parts

-- what it keeps to
abbrev pub lawful_of : (d : Dfa) → IsAutomaton (lists_of d)
lawful_of d = d.lawful

abbrev pub conditions_of : Dfa → ℕ
conditions_of d = conditions d.parts

abbrev pub states_of : Dfa → ℕ
states_of d = states d.parts

abbrev pub start_of : Dfa → ℕ → Bool → ℕ
start_of d = start d.parts

abbrev pub next_of : Dfa → ℕ → ℕ → ℕ
next_of d = next d.parts

abbrev pub accepts_of : Dfa → ℕ → List ℕ
accepts_of d = accepts d.parts

abbrev pub goes_on_of : Dfa → ℕ → Bool
goes_on_of d = goes_on d.parts

-- the lists' states, with the actions of a specification
abbrev pub machine_in : Parts → Spec → Machine
machine_in p S = record {
  conditions = length S.conditions;
  count = length S.rules;
  start = start p;
  next = next p;
  accepts = accepts p;
  goes_on = λ s. slice_index_or p.goes_on.items s false;
  cut = λ i. unwrap_or (option_map (λ r. r.cut) (slice_get S.rules i)) Whole;
  statements = λ i. statements_at (slice_get S.rules i);
  ending = λ c. end_at (slice_get S.conditions c);
}

-- the automaton's states, with the actions of a specification
abbrev pub machine_of : Dfa → Spec → Machine
machine_of d S = machine_in d.parts S

-- the lists' states, without actions
abbrev pub bare : Parts → Machine
bare p = record (machine_in p (record { conditions = []; rules = [] })) { conditions = conditions p }
