-- The rules that an automaton accepts. (This project's.)
use Rattle.std.specs.Prelude.{ℕ, ◌<◌}
use Rattle.lex_semantics.specs.Text.{Among}
use Rattle.lexauto_dfa.specs.Automata.{states_of, accepts_of}
use Rattle.lexauto_dfa.specs.declared.dfa.Dfa.{Dfa}

-- one of the first n states accepts the rule
abbrev pub AcceptsBelow : Dfa → ℕ → ℕ → Type 0
AcceptsBelow d n i = (s : ℕ) × (s < n) × Among (accepts_of d s) i

-- some state accepts the rule
abbrev pub Accepts : Dfa → ℕ → Type 0
Accepts d = AcceptsBelow d (states_of d)
