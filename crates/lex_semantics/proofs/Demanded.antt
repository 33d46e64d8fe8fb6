-- Each input has, for each number of turns, a state, and what the turns ask for.
use Rattle.std.proofs.Common.{◌≡◌, ℕ, zero, suc, ◌+◌, ◌-◌, ◌≤◌, ◌<◌, max, Bool, List, length, ◌⊎◌, inl, inr, refl, sym, subst, arith}
use Rattle.lex_semantics.specs.Text.{IsText}
use Rattle.lex_semantics.specs.Spec.{Spec, rejects}
use Rattle.lex_semantics.specs.Rules.{Rules, rules_of}
use Rattle.lex_semantics.specs.Laws.{Laws}
use Rattle.lex_semantics.specs.Legal.{IsAction}
use Rattle.lex_semantics.specs.Candidates.{Candidate, Candidates}
use Rattle.lex_semantics.specs.Run.{Place, State, Turns, NextFrom, first_state}
use Rattle.lex_semantics.specs.Demand.{AsksAt, Asks}
use Rattle.lex_semantics.specs.Scanned.{AfterTurns, then_turn}
use Rattle.lex_semantics.specs.Machine.{Machine, rules_of_machine}
use Rattle.lex_semantics.specs.MachineLaws.{MachineLaws}
use Rattle.lex_semantics.specs.TableFor.{TableFor}
use Rattle.lex_semantics.specs.Sound.{IsSound}
use Rattle.lex_semantics.proofs.Cuts.{laws_of}
use Rattle.lex_semantics.proofs.Exists.{candidates_exist}
use Rattle.lex_semantics.proofs.SpecRun.{spec_legal}
use Rattle.lex_semantics.proofs.Ends.{Moves, turn_exists}
use Rattle.lex_semantics.proofs.Step.{one_more, one_more_ended}
use Rattle.lex_semantics.proofs.Prefix.{asks_here, asks_all}
use Rattle.lex_semantics.proofs.Reaches.{machine_asks}
use Rattle.lex_semantics.proofs.MachineLaws.{machine_laws}
use Rattle.lex_semantics.proofs.MachineRun.{machine_candidates_exist}
use Rattle.lex_semantics.proofs.Both.{Alive, machine_after_exists, same_after}
use Rattle.lex_semantics.proofs.Table.{table_alike, reach_to}

first_alive : (x : List ℕ) → Alive x first_state
first_alive x = inr (refl, record { ordered = omega arith; fits = omega arith })

module _ (R : Rules) (l : Laws R) (legal : (i : ℕ) → i < R.count → IsAction R.conditions (R.statements i))
    (exist : (c : ℕ) (line_start : Bool) (y : List ℕ) → (ms : List Candidate) × Candidates R c line_start y ms) (x : List ℕ) where
  alive_after : (s t : State) → Moves x s.place t → Alive x (then_turn s t)
  alive_after s t (inl end) = inl end
  alive_after s t (inr moves) = inr (moves.0, moves.1)

  next_alive : (n : ℕ) (s : State) → Turns R x n s → Alive x s → (t : State) × Turns R x (suc n) t × Alive x t
  next_alive n s turns (inl (end, is)) = (s, (s, turns, subst (λ z. NextFrom R x s z s) (sym is) refl), inl (end, is))
  next_alive n s turns (inr (going, inside)) =
      let turn = turn_exists R l legal exist x s.place inside in (
        then_turn s turn.0,
        (s, turns, subst (λ z. NextFrom R x s z (then_turn s turn.0)) (sym going) (turn.0, turn.1, refl)),
        alive_after s turn.0 turn.2,
      )

  state_alive : (n : ℕ) → (s : State) × Turns R x n s × Alive x s
  state_alive zero = (first_state, refl, first_alive x)
  state_alive (suc n) = let before = state_alive n in next_alive n before.0 before.1 before.2

  -- After each number of turns a scan stands in some way.
  pub state_exists : (n : ℕ) → (s : State) × Turns R x n s
  state_exists n = let h = state_alive n in (h.0, h.1)

  -- Where a turn asked for r answers, and there are d more, it is never so that it asks for no number of them.
  no_reach_from : (p : Place) (d r : ℕ) → IsText x → p.at + r + d ≡ suc (length x) → 1 ≤ r → ((i : ℕ) → i < r → AsksAt R x p i) → ((q : ℕ) → Asks R x p q → ⊥) → ⊥
  no_reach_from p zero r text all some asked none = none r (asks_all R x p r (omega (arith, all)) asked)
  no_reach_from p (suc d) r text all some asked none =
      none r (asks_here R l x p r text (omega (arith, all)) some asked (λ asks. no_reach_from p d (suc r) text (omega (arith, all)) (omega arith) (on asks) none))
    where
      on : AsksAt R x p r → (i : ℕ) → i < suc r → AsksAt R x p i
      on asks i lt = from (grind arith)
        where
          from : (i < r) ⊎ (i ≡ r) → AsksAt R x p i
          from (inl less) = asked i less
          from (inr e) = subst (AsksAt R x p) (sym e) asks

  pub no_reach : (p : Place) → IsText x → p.at ≤ length x → ((r : ℕ) → Asks R x p r → ⊥) → ⊥
  no_reach p text le none = no_reach_from p (length x - p.at) 1 text (omega (arith, le)) (omega arith) (λ i less. inl (omega (arith, less))) none

  no_more : IsText x → (n : ℕ) (s : State) (f : ℕ) → AfterTurns R x n s f → Alive x s → ((t : State) (g : ℕ) → AfterTurns R x (suc n) t g → Alive x t → ⊥) → ⊥
  no_more text n s f h (inl (end, is)) none = none s f (one_more_ended R x n s f end h is) (inl (end, is))
  no_more text n s f h (inr (going, inside)) none =
      let turn = turn_exists R l legal exist x s.place inside in
      no_reach s.place text inside.fits (λ r asks. none (then_turn s turn.0) (max f (s.place.at + r)) (one_more R x n s turn.0 f r h going turn.1 asks) (alive_after s turn.0 turn.2))

  no_alive : IsText x → (n : ℕ) → ((s : State) (f : ℕ) → AfterTurns R x n s f → Alive x s → ⊥) → ⊥
  no_alive text zero none = none first_state 0 (refl, refl) (first_alive x)
  no_alive text (suc n) none = no_alive text n (λ s f h alive. no_more text n s f h alive none)

  pub no_demand : IsText x → (n : ℕ) → ((s : State) (f : ℕ) → AfterTurns R x n s f → ⊥) → ⊥
  no_demand text n none = no_alive text n (λ s f h alive. none s f h)

listed : (S : Spec) → IsSound S → (c : ℕ) (line_start : Bool) (y : List ℕ) → (ms : List Candidate) × Candidates (rules_of S) c line_start y ms
listed S sound c line_start y = let r = candidates_exist S sound c line_start y in (r.0, r.2)

pub spec_state : (S : Spec) → IsSound S → (x : List ℕ) (n : ℕ) → (s : State) × Turns (rules_of S) x n s
spec_state S sound x n = state_exists (rules_of S) (laws_of S sound) (spec_legal S sound) (listed S sound) x n

pub machine_state : (M : Machine) → MachineLaws M → (x : List ℕ) (n : ℕ) → (s : State) × Turns (rules_of_machine M) x n s
machine_state M laws x n = state_exists (rules_of_machine M) (machine_laws M laws) laws.legal (λ c line_start y. machine_candidates_exist M laws c line_start y) x n

pub never_no_reach : (S : Spec) → IsSound S → (x : List ℕ) (p : Place) → IsText x → p.at ≤ length x → ((r : ℕ) → Asks (rules_of S) x p r → ⊥) → ⊥
never_no_reach S sound x p text le none = no_reach (rules_of S) (laws_of S sound) (spec_legal S sound) (listed S sound) x p text le none

pub never_no_demand : (S : Spec) → IsSound S → (x : List ℕ) (n : ℕ) → IsText x → ((s : State) (f : ℕ) → AfterTurns (rules_of S) x n s f → ⊥) → ⊥
never_no_demand S sound x n text none = no_demand (rules_of S) (laws_of S sound) (spec_legal S sound) (listed S sound) x text n none

pub machine_reaches : (M : Machine) → MachineLaws M → (x : List ℕ) (p : Place) → IsText x → p.at ≤ length x → (r : ℕ) × Asks (rules_of_machine M) x p r
machine_reaches M laws x p text le = let own = machine_asks M laws x p text le in (own.0, own.1)

pub table_reaches : (M : Machine) (S : Spec) → MachineLaws M → IsSound S → TableFor M S → (x : List ℕ) (p : Place) → IsText x → p.at ≤ length x → p.condition < length S.conditions →
    (r : ℕ) × Asks (rules_of S) x p r
table_reaches M S laws sound table x p text le below =
    let own = machine_reaches M laws x p text le in
    (own.0, reach_to (rejects S) (rules_of_machine M) (rules_of S) (table_alike M S sound table) x text p own.0 below own.1)

pub table_after_exists : (M : Machine) (S : Spec) → MachineLaws M → IsSound S → TableFor M S → (x : List ℕ) (n : ℕ) → IsText x →
    (s : State) × (f : ℕ) × AfterTurns (rules_of S) x n s f
table_after_exists M S laws sound table x n text =
    let own = machine_after_exists M laws x text n in
    (own.0, own.1, (same_after M laws S sound table x text n own.0 own.1).0 own.2)
