-- The place of the next match. (POSIX, lex, Actions in lex: the scan goes on behind the text; yymore keeps the text;
-- flex's manual, Patterns: a line starts behind a newline.)
use Rattle.std.specs.Prelude.{◌≡◌, ℕ, ◌-◌, ◌<◌, Bool, true, false, List, ◌++◌, take, drop, nat_eq, get_or}
use Rattle.lexscan_window.specs.declared.state.State.{State}
use Rattle.lexscan_window.specs.declared.act.ActionState.{ActionState}
use Rattle.lexscan_window.specs.Window.{last_of}

-- the bytes that are kept before the place of the next match
abbrev pub kept_before : State → List ℕ
kept_before s = s.reading.window.behind ++ take s.place.at s.reading.window.bytes

-- whether the next text starts where this one does
abbrev pub stays : Bool → Bool → Bool
stays true false = true
stays true true = false
stays false over = false

-- the bytes that are held at the next place, and how far into them it is
abbrev pub next_bytes : Bool → ℕ → List ℕ → List ℕ
next_bytes true end w = w
next_bytes false end w = drop end w

abbrev pub next_at : Bool → ℕ → ℕ
next_at true end = end
next_at false end = 0

-- The scan is at the place of the next match. The text of this one is kept before it.
pub record AtNextPlace (w : List ℕ) (a : ActionState) (over : Bool) (new : State) : Type 0 where
  pub held : new.reading.window.bytes ≡ next_bytes (stays a.more over) a.end w
  pub at : new.place.at ≡ next_at (stays a.more over) a.end
  pub line : 0 < a.end → new.place.line_start ≡ nat_eq (get_or w (a.end - 1) 0) 10
  pub condition : new.place.condition ≡ a.condition
  pub stack : new.acting.stack ≡ a.stack
  pub end : new.acting.end ≡ a.end
  pub text : last_of a.end (kept_before new) ≡ take a.end w
