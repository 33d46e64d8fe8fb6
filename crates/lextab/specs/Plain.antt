-- The machine of an automaton as it stands, with its laws.
use Rattle.std.specs.Prelude.{ℕ}
use Rattle.lex_semantics.specs.Machine.{Machine}
use Rattle.lex_semantics.specs.MachineLaws.{MachineLaws, StaysBelow}
use Rattle.lexauto_dfa.specs.Automata.{lawful_of, lists_of, machine_of, states_of}
use Rattle.lexspec.specs.Views.{spec_of}
use Rattle.lextab.specs.Below.{below}
use Rattle.lextab.specs.declared.plain.Plain.{Plain}

abbrev pub plain_machine : Plain → Machine
plain_machine p = machine_of p.dfa.now (spec_of p.spec.now)

abbrev pub plain_states : Plain → ℕ
plain_states p = states_of p.dfa.now

-- the machine keeps its laws, and stays below the count of states
abbrev pub plain_laws : (p : Plain) → MachineLaws (plain_machine p)
plain_laws p = p.lawful

abbrev pub plain_below : (p : Plain) → StaysBelow (plain_machine p) (plain_states p)
plain_below p = below (lists_of p.dfa.now) (lawful_of p.dfa.now) (spec_of p.spec.now) p.conditions
