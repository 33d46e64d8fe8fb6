-- What turns that ask for so much are: turns, and a last one.
use Rattle.std.proofs.Common.{◌≡◌, ℕ, zero, suc, ◌+◌, max, List, None, subst}
use Rattle.lex_semantics.specs.Rules.{Rules}
use Rattle.lex_semantics.specs.Run.{State, Turns}
use Rattle.lex_semantics.specs.Demand.{Asks, AsksFrom}
use Rattle.lex_semantics.specs.Scanned.{AfterTurns}
use Rattle.lex_semantics.proofs.Once.{one_state}

pub turns_of : (R : Rules) (x : List ℕ) (n : ℕ) (s : State) (asked : ℕ) → AfterTurns R x n s asked → Turns R x n s
turns_of R x zero s asked h = h.0
turns_of R x (suc n) s asked (b, before, h, next, asks) = (b, turns_of R x n b before h, next)

-- what the turn from a state asks for, which is the last of these
pub last_asks : (R : Rules) (x : List ℕ) (n : ℕ) (s t : State) (asked : ℕ) → Turns R x n s → s.ended ≡ None → AfterTurns R x (suc n) t asked
    → (before : ℕ) × AfterTurns R x n s before × (r : ℕ) × Asks R x s.place r × (asked ≡ max before (s.place.at + r))
last_asks R x n s t asked turns going (b, before, h, next, asks) =
    let same : b ≡ s = one_state R x n b s (turns_of R x n b before h) turns in
    let last : AsksFrom R x s.place None before asked = subst (λ e. AsksFrom R x s.place e before asked) going (subst (λ (z : State). AsksFrom R x z.place z.ended before asked) same asks) in
    (before, subst (λ (z : State). AfterTurns R x n z before) same h, last.0, last.1, last.2)
