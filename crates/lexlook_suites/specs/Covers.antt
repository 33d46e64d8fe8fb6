-- What is told of the matches of an input. (This project's.)
use Rattle.std.specs.Prelude.{◌≡◌, ℕ, ◌-◌, length, map, take}
use Rattle.lexauto_dfa.specs.declared.dfa.Parts.{Parts}
use Rattle.lexlook_suites.specs.Edges.{all_edges, state_parts}
use Rattle.lexlook_suites.specs.Texts.{AreTexts, unwalked}
use Rattle.lexlook_suites.specs.declared.covering.Cover.{Cover}
use Rattle.lexlook_suites.specs.declared.marks.Marks.{Marks}

-- so many edges at most are told with a text
abbrev pub line_limit : ℕ
line_limit = 1000

-- all states and edges of an automaton with n rules, and of the edges that no match goes through the first, with texts
pub record IsCoverOf (p : Parts) (m : Marks) (n : ℕ) (c : Cover) : Type 0 where
  pub states_are : c.states.items ≡ state_parts p m n
  pub edges_are : c.edges.items ≡ map (λ e. e.part) (all_edges p m n)
  pub missed_are : AreTexts p (take line_limit (unwalked (all_edges p m n))) c.missed.items
  pub more_are : c.more ≡ length (unwalked (all_edges p m n)) - line_limit
