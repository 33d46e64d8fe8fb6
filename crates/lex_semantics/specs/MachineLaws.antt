-- What each machine keeps to. (This project's.)
use Rattle.std.specs.Prelude.{◌≡◌, ℕ, ◌≤◌, ◌<◌, Bool, true, false, List, [], ◌∷◌, length, ◌↔◌, fold}
use Rattle.std.specs.Coded.{×_prop, Unit-prop, le_prop}
use Rattle.std.proofs.Props.{props}
use Rattle.lex_semantics.specs.Text.{IsText, Among, Ascending}
use Rattle.lex_semantics.specs.Spec.{has_reject}
use Rattle.lex_semantics.specs.Machine.{Machine}
use Rattle.lex_semantics.specs.Legal.{IsAction}

-- some word that is not empty leads from the state to one that accepts
abbrev pub LeadsToAccept : Machine → ℕ → Type 0
LeadsToAccept M s = (u : List ℕ) × IsText u × (1 ≤ length u) × (i : ℕ) × Among (M.accepts (fold M.next s u)) i

pub record MachineLaws (M : Machine) : Type 0 where
  pub some_condition : 1 ≤ M.conditions
  pub in_range : (s i : ℕ) → Among (M.accepts s) i → i < M.count
  pub ascending : (s : ℕ) → Ascending (M.accepts s)
  -- state 0 is dead
  pub dead_stays : (b : ℕ) → M.next 0 b ≡ 0
  pub dead_accepts : M.accepts 0 ≡ []
  pub goes_on : (s : ℕ) → (M.goes_on s ≡ true) ↔ ∥ LeadsToAccept M s ∥₁
  pub legal : (i : ℕ) → i < M.count → IsAction M.conditions (M.statements i)

-- The machine's states are the numbers below n: the dead one, those in which matches start, and those that a byte leads
-- to from one of them. No other number accepts.
pub record StaysBelow (M : Machine) (n : ℕ) : Type 0 where
  pub dead : 0 < n
  pub start : (c : ℕ) (line_start : Bool) → c < M.conditions → M.start c line_start < n
  pub next : (s b : ℕ) → s < n → b < 256 → M.next s b < n
  pub accepts : (s i : ℕ) → Among (M.accepts s) i → s < n

-- no rule has REJECT
abbrev pub NoReject : Machine → Type 0
NoReject M = (i : ℕ) → i < M.count → has_reject (M.statements i) ≡ false

-- some rule has it
abbrev pub SomeReject : Machine → Type 0
SomeReject M = (i : ℕ) × (i < M.count) × (has_reject (M.statements i) ≡ true)

-- the answer says whether some rule has REJECT
abbrev pub Rejects : Machine → Bool → Type 0
Rejects M false = NoReject M
Rejects M true = SomeReject M

-- There is one proof of these at most, so a type may keep them.
Ascending-prop : (l : List ℕ) → IsProp (Ascending l)
Ascending-prop [] = Unit-prop
Ascending-prop (i ∷ is) = ×_prop (λ x y. λ k. λ j a. le_prop (x j a) (y j a) k) (Ascending-prop is)

pub MachineLaws-prop : (M : Machine) → IsProp (MachineLaws M)
MachineLaws-prop M x y = λ k. record {
  some_condition = le_prop x.some_condition y.some_condition k;
  in_range = λ s i a. le_prop (x.in_range s i a) (y.in_range s i a) k;
  ascending = λ s. Ascending-prop (M.accepts s) (x.ascending s) (y.ascending s) k;
  dead_stays = λ b. (let p : IsProp (M.next 0 b ≡ 0) = Prim.hlevel props in p) (x.dead_stays b) (y.dead_stays b) k;
  dead_accepts = (let p : IsProp (M.accepts 0 ≡ []) = Prim.hlevel props in p) x.dead_accepts y.dead_accepts k;
  goes_on =
      λ s. (let p : IsProp ((M.goes_on s ≡ true) ↔ ∥ LeadsToAccept M s ∥₁) = Prim.hlevel props in p) (x.goes_on s)
      (y.goes_on s) k;
  legal = λ i h. (let p : IsProp (IsAction M.conditions (M.statements i)) = Prim.hlevel props in p) (x.legal i h)
      (y.legal i h) k;
}

pub StaysBelow-prop : (M : Machine) (n : ℕ) → IsProp (StaysBelow M n)
StaysBelow-prop M n x y = λ k. record {
  dead = le_prop x.dead y.dead k;
  start = λ c line_start h. le_prop (x.start c line_start h) (y.start c line_start h) k;
  next = λ s b h g. le_prop (x.next s b h g) (y.next s b h g) k;
  accepts = λ s i a. le_prop (x.accepts s i a) (y.accepts s i a) k;
}
