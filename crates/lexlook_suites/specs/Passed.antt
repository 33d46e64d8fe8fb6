-- Walks over an input of which all is marked that they go through. (Reps, Maximal-munch tokenization in linear time,
-- 1998, keeps such pairs of a state and a place; what they tell here is this project's.)
use Rattle.std.specs.Prelude.{◌≡◌, ℕ, ◌+◌, ◌*◌, ◌<◌, true, List, drop}
use Rattle.lex_semantics.specs.Text.{Among, flag}
use Rattle.lexauto_dfa.specs.Parts.{states}
use Rattle.lexauto_dfa.specs.declared.dfa.Parts.{Parts}
use Rattle.lexscan_window.specs.declared.memo.Mark.{Mark}
use Rattle.lexlook_suites.specs.Walks.{ComesTo, GoesBy}
use Rattle.lexlook_suites.specs.declared.marks.Marks.{Marks}

-- all that a match goes through over this text, from the state on, is marked
pub record IsPassed (p : Parts) (m : Marks) (s : ℕ) (w : List ℕ) : Type 0 where
  pub visited : (q : ℕ) → q < states p → ComesTo p s w q → flag m.states.items q ≡ true
  pub taken : (q b : ℕ) → q < states p → b < 256 → GoesBy p s w q b → flag m.bytes.items (256 * q + b) ≡ true

-- so it is from the state and the place of each of these on
abbrev pub ArePassed : Parts → Marks → List ℕ → List Mark → Type 0
ArePassed p m x ks = (k : Mark) → Among ks k → IsPassed p m k.state (drop k.place x)
