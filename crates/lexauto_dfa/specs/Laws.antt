-- Automata are machines. (This project's.)
use Rattle.std.specs.Prelude.{ℕ, ◌<◌, length}
use Rattle.lex_semantics.specs.Text.{Among}
use Rattle.lex_semantics.specs.Spec.{Spec}
use Rattle.lex_semantics.specs.Sound.{IsSound}
use Rattle.lex_semantics.specs.MachineLaws.{MachineLaws}
use Rattle.lexauto_dfa.specs.Automata.{states_of, accepts_of, machine_of}
use Rattle.lexauto_dfa.specs.declared.dfa.Dfa.{Dfa}

-- an automaton that accepts rules of a sound specification keeps to the laws of machines with its actions
abbrev pub AutomataAreMachines : Type 0
AutomataAreMachines =
    (d : Dfa) (S : Spec) → IsSound S → ((s i : ℕ) → s < states_of d → Among (accepts_of d s) i → i < length S.rules)
    → MachineLaws (machine_of d S)
