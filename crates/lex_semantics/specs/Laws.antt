-- What the rules of a specification or a machine keep to.
use Rattle.std.specs.Prelude.{◌≡◌, ℕ, ◌≤◌, Bool, List, ◌++◌, length}
use Rattle.lex_semantics.specs.Text.{IsText}
use Rattle.lex_semantics.specs.Rules.{Rules}

pub record Laws (R : Rules) : Type 0 where
  -- the text is not empty, and a front of the word
  pub some_text : (c : ℕ) (line_start : Bool) (w : List ℕ) (i k : ℕ) → R.full c line_start w i k → 1 ≤ k
  pub inside : (c : ℕ) (line_start : Bool) (w : List ℕ) (i k : ℕ) → R.full c line_start w i k → k ≤ length w
  -- the word and the rule determine it
  pub one_text : (c : ℕ) (line_start : Bool) (w : List ℕ) (i k l : ℕ) → R.full c line_start w i k
      → R.full c line_start w i l → k ≡ l
  -- what a longer word that fits begins with is live, and so is each front of a live word
  pub live_from_full : (c : ℕ) (line_start : Bool) (w u : List ℕ) (i k : ℕ) → IsText u → 1 ≤ length u
      → R.full c line_start (w ++ u) i k → R.live c line_start w
  pub live_shorter : (c : ℕ) (line_start : Bool) (w u : List ℕ) → IsText u → R.live c line_start (w ++ u)
      → R.live c line_start w
