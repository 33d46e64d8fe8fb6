-- What the bytes held tell of a match.
use Rattle.std.specs.Prelude.{◌≡◌, ℕ, ◌+◌, ◌-◌, ◌≤◌, ◌<◌, true, List, length, drop}
use Rattle.lex_semantics.specs.Text.{Among}
use Rattle.lex_semantics.specs.Machine.{Machine}
use Rattle.lexscan_matching.specs.declared.back.Ahead.{Ahead}
use Rattle.lex_machine.specs.Quiets.{NoneFits}
use Rattle.lexscan_matching.specs.declared.back.Passed.{Passed}
use Rattle.lexscan_matching.specs.declared.back.Settled.{Settled}
use Rattle.lexscan_matching.specs.declared.back.Walked.{Walked}
use Rattle.lexscan_matching.specs.declared.pick.LookAhead.{LookAhead}
use Rattle.lexscan_window.specs.declared.state.Reading.{Reading}
use Rattle.lexscan_window.specs.declared.state.TextPlace.{TextPlace}
use Rattle.lexscan_window.specs.Memos.{Barren}
use Rattle.lexscan_matching.specs.Picks.{path_of, state_at}
use Rattle.lexscan_matching.specs.Looks.{SoFar}

-- A place that the walk over the bytes held passes.
pub record IsOnTheWay (M : Machine) (states : ℕ) (p : TextPlace) (r : Reading) (d : Passed) : Type 0 where
  pub inside : p.at + d.len ≤ length r.window.bytes
  pub state_is : d.state ≡ state_at M p r.window.bytes d.len
  pub known : d.state < states

abbrev pub AreOnTheWay : Machine → ℕ → TextPlace → Reading → List Passed → Type 0
AreOnTheWay M states p r ds = (d : Passed) → Among ds d → IsOnTheWay M states p r d

-- A walk over the bytes held: no rule fits after more of them than it keeps.
pub record WalkedOver (M : Machine) (states : ℕ) (p : TextPlace) (r : Reading) (a : Walked) : Type 0 where
  pub inside : p.at + a.len ≤ length r.window.bytes
  pub so_far : SoFar M p (drop p.at r.window.bytes) a.len a.state (path_of M p r.window.bytes a.len)
  pub before_is : a.before ≡ state_at M p r.window.bytes (a.len - 1)
  pub known : a.state < states
  pub known_before : a.before < states
  pub some : 1 ≤ a.keep
  pub order : a.keep ≤ a.len
  pub kept_is : a.kept ≡ state_at M p r.window.bytes a.keep
  pub kept_known : a.kept < states
  pub kept_before_is : a.kept_before ≡ state_at M p r.window.bytes (a.keep - 1)
  pub kept_before_known : a.kept_before < states
  pub none : (k : ℕ) → a.keep < k → k ≤ a.len → NoneFits M (state_at M p r.window.bytes k)

-- What a walk tells of its match, where no rule fits after it.
abbrev pub settled_of : Walked → Settled
settled_of a = record { keep = a.keep; state = a.kept; before = a.kept_before; len = a.len; seen = a.len }

-- The match asks for more bytes than it keeps at most, and from each of these on the walk is barren, as far as it is
-- told.
pub record IsSettled (M : Machine) (states : ℕ) (p : TextPlace) (r : Reading) (s : Settled) : Type 0 where
  pub some : 1 ≤ s.keep
  pub order : s.keep ≤ s.len
  pub inside : p.at + s.len ≤ length r.window.bytes
  pub known : s.state < states
  pub before_is : s.before ≡ state_at M p r.window.bytes (s.keep - 1)
  pub known_before : s.before < states
  pub so_far : SoFar M p (drop p.at r.window.bytes) s.keep s.state (path_of M p r.window.bytes s.keep)
  pub barren : (k : ℕ) → s.keep ≤ k → k ≤ s.len
      → Barren M r.at_end (state_at M p r.window.bytes k) (drop (p.at + k) r.window.bytes)

-- The match asks for all the bytes held, and for one more.
pub record IsOpen (M : Machine) (states : ℕ) (p : TextPlace) (r : Reading) (s : LookAhead) : Type 0 where
  pub some : 1 ≤ s.reach
  pub all : p.at + s.reach ≡ length r.window.bytes
  pub so_far : SoFar M p (drop p.at r.window.bytes) s.reach s.state (path_of M p r.window.bytes s.reach)
  pub goes_on : M.goes_on s.state ≡ true
  pub before_is : s.before ≡ state_at M p r.window.bytes (s.reach - 1)
  pub known : s.state < states
  pub known_before : s.before < states

abbrev pub LooksAhead : Machine → ℕ → TextPlace → Reading → Ahead → Type 0
LooksAhead M states p r (Ahead.Settled s) = IsSettled M states p r s
LooksAhead M states p r (Ahead.Open s) = IsOpen M states p r s
