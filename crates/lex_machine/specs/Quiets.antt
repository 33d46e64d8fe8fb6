-- Rules that do nothing but REJECT, and a machine in which they fit no text. (flex, Actions; that they can be left out
-- is this project's.)
use Rattle.std.specs.Prelude.{ℕ, Bool, true, false, List, [], ◌∷◌, if◌then◌else◌}
use Rattle.lex_semantics.specs.Text.{Among}
use Rattle.lex_semantics.specs.Spec.{Statement, Reject, Head}
use Rattle.lex_semantics.specs.Machine.{Machine, Keeps}

-- the action does nothing but REJECT
abbrev pub only_rejects : List Statement → Bool
only_rejects (Reject ∷ ss) = true
only_rejects other = false

-- The rules that only REJECT keep none of a match, so they fit no text, and do nothing. All else stays.
abbrev pub quiet : Machine → Machine
quiet M =
    record M {
      cut = λ i. if only_rejects (M.statements i) then Head 0 else M.cut i;
      statements = λ i. if only_rejects (M.statements i) then [] else M.statements i;
    }

-- no text that leads to the state fits a rule there
abbrev pub NoneFits : Machine → ℕ → Type 0
NoneFits M s = (i : ℕ) → Among (M.accepts s) i → (n k : ℕ) → Keeps (M.cut i) n k → ⊥
