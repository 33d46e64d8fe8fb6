-- What each automaton keeps to. (This project's.)
use Rattle.std.specs.Prelude.{◌≡◌, ◌≢◌, ℕ, ◌*◌, ◌<◌, ◌≤◌, true, List, [], ◌∷◌, length, slice_index, ◌↔◌}
use Rattle.std.specs.Coded.{×_prop, Unit-prop, le_prop}
use Rattle.std.proofs.Props.{props}
use Rattle.lex_semantics.specs.Limits.{max_states}
use Rattle.lex_semantics.specs.Text.{Ascending}
use Rattle.lexauto_dfa.specs.Parts.{states, next, accepts, goes_on, IsReachedIn, LeadsOn}
use Rattle.lexauto_dfa.specs.declared.dfa.Parts.{Parts}

pub record IsAutomaton (p : Parts) : Type 0 where
  pub some : 1 ≤ states p
  pub few : states p ≤ max_states
  -- each condition has two starts, and each state a row, a list of rules and a flag
  pub lines : length p.line_starts.items ≡ length p.starts.items
  pub rows : length p.next.items ≡ 256 * length p.goes_on.items
  pub lists : length p.accepts.items ≡ length p.goes_on.items
  -- numbers are in range
  pub starts_known : (c : ℕ) → c < length p.starts.items → slice_index p.starts.items c < states p
  pub lines_known : (c : ℕ) → c < length p.line_starts.items → slice_index p.line_starts.items c < states p
  pub next_known : (i : ℕ) → i < length p.next.items → slice_index p.next.items i < states p
  -- state 0 is dead
  pub dead_stays : (b : ℕ) → next p 0 b ≡ 0
  pub dead_accepts : accepts p 0 ≡ []
  pub reached : (s : ℕ) → s < states p → s ≢ 0 → ∥ IsReachedIn p s ∥₁
  pub ascending : (s : ℕ) → s < states p → Ascending (accepts p s)
  pub goes_on : (s : ℕ) → s < states p → (goes_on p s ≡ true) ↔ ∥ LeadsOn p s ∥₁

-- There is one proof of it at most, so a type may keep it.
Ascending-prop : (l : List ℕ) → IsProp (Ascending l)
Ascending-prop [] = Unit-prop
Ascending-prop (i ∷ is) = ×_prop (λ x y. λ k. λ j a. le_prop (x j a) (y j a) k) (Ascending-prop is)

pub IsAutomaton-prop : (p : Parts) → IsProp (IsAutomaton p)
IsAutomaton-prop p = Prim.hlevel (props, Ascending-prop)
