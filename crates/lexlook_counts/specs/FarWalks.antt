-- Walks over the bytes of an input, and marks of where they lead. (Reps, Maximal-munch tokenization in linear time,
-- 1998; that a walk ends where the machine goes on no more is this project's.)
use Rattle.std.specs.Prelude.{◌≡◌, ℕ, ◌+◌, ◌≤◌, ◌<◌, ◌⊎◌, false, List, length, take, drop}
use Rattle.lex_semantics.specs.Text.{Among}
use Rattle.lex_semantics.specs.Machine.{Machine}
use Rattle.lexscan_window.specs.Memos.{GoesOver}
use Rattle.lexscan_window.specs.declared.memo.Mark.{Mark}
use Rattle.lexlook_counts.specs.declared.walking.FarWalk.{FarWalk}

-- A walk from a state over these bytes goes over so many of them to a last state. The machine goes on no more there, or
-- these are all.
pub record IsFarWalk (M : Machine) (states s : ℕ) (w : List ℕ) (r : FarWalk) : Type 0 where
  pub inside : r.count ≤ length w
  pub goes : GoesOver M s (take r.count w) r.state r.before
  pub known : r.state < states
  pub walked : r.seen ≤ r.count
  pub stops : (r.count ≡ length w) ⊎ ((1 ≤ r.count) × (M.goes_on r.state ≡ false))

-- Over the bytes of an input from the place of a mark on, the walk from its state goes over as many as it says.
pub record IsTrueOf (M : Machine) (states : ℕ) (given : List ℕ) (m : Mark) : Type 0 where
  pub inside : m.place + m.count ≤ length given
  pub goes : GoesOver M m.state (take m.count (drop m.place given)) m.last m.before
  pub known : m.last < states

abbrev pub AreTrueOf : Machine → ℕ → List ℕ → List Mark → Type 0
AreTrueOf M states given ms = (m : Mark) → Among ms m → IsTrueOf M states given m

-- these are bytes of such an input from a place on
abbrev pub AreTrueFrom : Machine → ℕ → ℕ → List ℕ → List Mark → Type 0
AreTrueFrom M states place bytes ms =
    (given : List ℕ) × (place ≤ length given) × (bytes ≡ drop place given) × AreTrueOf M states given ms
