-- The least automaton of a specification, as it is built. (This project's.)
use Rattle.std.specs.Prelude.{◌≡◌, ℕ, ◌≤◌, length}
use Rattle.lex_semantics.specs.Spec.{Spec}
use Rattle.lex_semantics.specs.MachineLaws.{MachineLaws}
use Rattle.lex_semantics.specs.TableFor.{TableFor}
use Rattle.lex_semantics.specs.Subsets.{HasSubsets, all_positions}
use Rattle.lexauto_dfa.specs.Automata.{lists_of, machine_in}
use Rattle.lexauto_dfa.specs.Parts as P
use Rattle.lexauto_dfa.specs.declared.dfa.Dfa.{Dfa}
use Rattle.lexauto_dfa.specs.Least.{IsLeast, IsNumbered}
use Rattle.lexauto.specs.declared.subsets.Limits.{Limits}

-- the least automaton of a specification, whose automaton had so many states before and is within the limits
pub record IsLeastOf (limits : Limits) (S : Spec) (subsets : ℕ) (d : Dfa) : Type 0 where
  pub few_positions : all_positions S.rules ≤ limits.positions
  pub subsets_are : HasSubsets S subsets
  pub few_states : subsets ≤ limits.states
  pub conditions : P.conditions (lists_of d) ≡ length S.conditions
  pub table : TableFor (machine_in (lists_of d) S) S
  pub laws : MachineLaws (machine_in (lists_of d) S)
  pub least : IsLeast (lists_of d)
  pub numbered : IsNumbered (lists_of d)
