-- What marks tell, and what more of them leaves. (This project's.)
use Rattle.std.specs.Prelude.{◌≡◌, ℕ, ◌+◌, ◌*◌, ◌<◌, ◌⊎◌, ◌↔◌, true, false, length}
use Rattle.lex_semantics.specs.Text.{flag}
use Rattle.lexlook_suites.specs.declared.marks.Marks.{Marks}

-- for so many states
pub record IsSized (n : ℕ) (m : Marks) : Type 0 where
  pub states : length m.states.items ≡ n
  pub bytes : length m.bytes.items ≡ 256 * n

-- nothing is marked
pub record AreNone (n : ℕ) (m : Marks) : Type 0 where
  pub size : IsSized n m
  pub states : (q : ℕ) → flag m.states.items q ≡ false
  pub bytes : (q b : ℕ) → flag m.bytes.items (256 * q + b) ≡ false

-- exactly these states and bytes are marked beside those that were
pub record Adds (n : ℕ) (old new : Marks) (V : ℕ → Type 0) (W : ℕ → ℕ → Type 0) : Type 0 where
  pub size : IsSized n new
  pub states : (q : ℕ) → q < n → (flag new.states.items q ≡ true) ↔ ((flag old.states.items q ≡ true) ⊎ V q)
  pub bytes : (q b : ℕ) → q < n → b < 256
      → (flag new.bytes.items (256 * q + b) ≡ true) ↔ ((flag old.bytes.items (256 * q + b) ≡ true) ⊎ W q b)
