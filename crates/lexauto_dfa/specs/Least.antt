-- The least automaton of those that accept alike, and the canonical numbers of its states. (This project's.)
use Rattle.std.specs.Prelude.{◌≡◌, ℕ, Bool, List, [], ◌∷◌, zip}
use Rattle.std.specs.List.{flat_map}
use Rattle.lex_semantics.specs.Text.{IsText}
use Rattle.lexauto_dfa.specs.Automata.{bare, conditions_of, lists_of}
use Rattle.lexauto_dfa.specs.Parts.{states, start, accepts, goes_on, after, lists_in}
use Rattle.lexauto_dfa.specs.declared.dfa.Parts.{Parts}
use Rattle.lexauto_dfa.specs.declared.dfa.Dfa.{Dfa}
use Rattle.lexauto_dfa.specs.LeastMachines as LeastMachines

-- after each continuation, the empty one among them, both accept the same rules
abbrev pub SameFuture : Parts → ℕ → Parts → ℕ → Type 0
SameFuture p s q t = (w : List ℕ) → IsText w → accepts p (after p s w) ≡ accepts q (after q t w)

-- the lists' states are the least ones, and numbered in the order of their first calls
abbrev pub IsLeast : Parts → Type 0
IsLeast p = LeastMachines.IsLeastMachine (bare p) (states p)

abbrev pub IsNumbered : Parts → Type 0
IsNumbered p = LeastMachines.IsNumberedMachine (bare p) (states p)

-- of each condition the start elsewhere, and then that at the start of a line
abbrev pub by_turns : List ℕ → List ℕ → List ℕ
by_turns starts line_starts = flat_map (λ p. p.0 ∷ p.1 ∷ []) (zip starts line_starts)

-- after each word from each start both accept the same rules
abbrev pub AcceptsAs : Parts → Parts → Type 0
AcceptsAs p q = (c : ℕ) (line_start : Bool) → SameFuture p (start p c line_start) q (start q c line_start)

-- after each word from each start both go on, or neither does
abbrev pub GoesOnAs : Parts → Parts → Type 0
GoesOnAs p q =
    (c : ℕ) (line_start : Bool) (w : List ℕ) → IsText w
    → goes_on p (after p (start p c line_start) w) ≡ goes_on q (after q (start q c line_start) w)

-- the same starts, moves, rules and flags
pub record AreSame (p q : Parts) : Type 0 where
  pub starts : p.starts.items ≡ q.starts.items
  pub line_starts : p.line_starts.items ≡ q.line_starts.items
  pub next : p.next.items ≡ q.next.items
  pub accepts : lists_in p ≡ lists_in q
  pub goes_on : p.goes_on.items ≡ q.goes_on.items

-- the law by which there is one least automaton at most, numbered so, that accepts alike
abbrev pub OneAutomaton : Type 0
OneAutomaton =
    (d e : Dfa) → IsLeast (lists_of d) → IsLeast (lists_of e) → IsNumbered (lists_of d) → IsNumbered (lists_of e)
    → conditions_of d ≡ conditions_of e → AcceptsAs (lists_of d) (lists_of e) → AreSame (lists_of d) (lists_of e)
