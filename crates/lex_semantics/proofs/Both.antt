-- How a scan stands after n turns is determined; for a machine it exists. So a machine that is a table for a
-- specification has its turns, demand and run, and the other way round.
use Rattle.std.proofs.Common.{◌≡◌, ℕ, zero, suc, ◌+◌, max, List, ◌⊎◌, inl, inr, ◌↔◌, Option, Some, None, refl, sym, ◌∙◌, subst, arith}
use Rattle.lex_semantics.specs.Text.{IsText}
use Rattle.lex_semantics.specs.Spec.{Spec, rejects}
use Rattle.lex_semantics.specs.Rules.{Rules, rules_of}
use Rattle.lex_semantics.specs.Acting.{Ending}
use Rattle.lex_semantics.specs.Run.{Place, State, NextFrom, Turns, Run, first_state}
use Rattle.lex_semantics.specs.Demand.{AsksFrom}
use Rattle.lex_semantics.specs.Scanned.{AfterTurns, then_turn}
use Rattle.lex_semantics.specs.Machine.{Machine, rules_of_machine}
use Rattle.lex_semantics.specs.MachineLaws.{MachineLaws}
use Rattle.lex_semantics.specs.TableFor.{TableFor}
use Rattle.lex_semantics.specs.Sound.{IsSound}
use Rattle.lex_semantics.specs.ScanLaws.{SameOver}
use Rattle.lex_semantics.proofs.After.{turns_of}
use Rattle.lex_semantics.proofs.Once.{one_next, one_state, one_run}
use Rattle.lex_semantics.proofs.Ends.{Inside, Moves, turn_exists}
use Rattle.lex_semantics.proofs.Step.{one_more, one_more_ended}
use Rattle.lex_semantics.proofs.Reaches.{one_reach, machine_asks}
use Rattle.lex_semantics.proofs.MachineLaws.{machine_laws}
use Rattle.lex_semantics.proofs.MachineRun.{machine_candidates_exist, machine_run_exists}
use Rattle.lex_semantics.proofs.Table.{turns_to, table_alike, table_after, table_run}

-- what is asked for is determined

one_asked_from : (R : Rules) (x : List ℕ) (p : Place) (e : Option Ending) (f g h : ℕ) → AsksFrom R x p e f g → AsksFrom R x p e f h → g ≡ h
one_asked_from R x p (Some d) f g h a b = a ∙ sym b
one_asked_from R x p None f g h (q, asks, is) (r, asks', is') =
    let same : q ≡ r = one_reach R x p q r asks asks' in
    omega arith

-- How a scan stands after n turns is determined.
pub one_after : (R : Rules) (x : List ℕ) (n : ℕ) (s t : State) (f g : ℕ) → AfterTurns R x n s f → AfterTurns R x n t g → (s ≡ t) × (f ≡ g)
one_after R x zero s t f g h k = (h.0 ∙ sym k.0, h.1 ∙ sym k.1)
one_after R x (suc n) s t f g (b, f', h, next, asks) (c, g', k, next', asks') =
    let same = one_after R x n c b g' f' k h in
    let asks'' : AsksFrom R x b.place b.ended f' g = subst (λ z. AsksFrom R x b.place b.ended z g) same.1 (subst (λ (z : State). AsksFrom R x z.place z.ended g' g) same.0 asks') in (
      one_next R x b s t next (subst (λ (z : State). NextFrom R x z z.ended t) same.0 next'),
      one_asked_from R x b.place b.ended f' f g asks asks'',
    )

-- for a machine it exists

-- the scan has ended, or its place lies in the input
abbrev pub Alive : List ℕ → State → Type 0
Alive x s = ((e : Ending) × (s.ended ≡ Some e)) ⊎ ((s.ended ≡ None) × Inside x s.place)

module _ (M : Machine) (laws : MachineLaws M) (x : List ℕ) (text : IsText x) where
  one_more_exists : (n : ℕ) (s : State) (f : ℕ) → AfterTurns (rules_of_machine M) x n s f → Alive x s →
      (t : State) × (g : ℕ) × AfterTurns (rules_of_machine M) x (suc n) t g × Alive x t
  one_more_exists n s f h (inl (end, is)) = (s, f, one_more_ended (rules_of_machine M) x n s f end h is, inl (end, is))
  one_more_exists n s f h (inr (going, inside)) =
      let turn = turn_exists (rules_of_machine M) (machine_laws M laws) laws.legal (λ c line_start y. machine_candidates_exist M laws c line_start y) x s.place inside in
      let asks = machine_asks M laws x s.place text inside.fits in (
        then_turn s turn.0,
        max f (s.place.at + asks.0),
        one_more (rules_of_machine M) x n s turn.0 f asks.0 h going turn.1 asks.1,
        alive turn.0 turn.2,
      )
    where
      alive : (u : State) → Moves x s.place u → Alive x (then_turn s u)
      alive u (inl end) = inl end
      alive u (inr moves) = inr (moves.0, moves.1)

  alive_exists : (n : ℕ) → (s : State) × (f : ℕ) × AfterTurns (rules_of_machine M) x n s f × Alive x s
  alive_exists zero = (first_state, 0, (refl, refl), inr (refl, record { ordered = omega arith; fits = omega arith }))
  alive_exists (suc n) = let before = alive_exists n in one_more_exists n before.0 before.1 before.2 before.3

  -- After each number of turns a scan over a machine stands in some way.
  pub machine_after_exists : (n : ℕ) → (s : State) × (f : ℕ) × AfterTurns (rules_of_machine M) x n s f
  machine_after_exists n = let h = alive_exists n in (h.0, h.1, h.2)

-- both directions

module _ (M : Machine) (laws : MachineLaws M) (S : Spec) (sound : IsSound S) (table : TableFor M S) (x : List ℕ) (text : IsText x) where
  after_back : (n : ℕ) (s : State) (f : ℕ) → AfterTurns (rules_of S) x n s f → AfterTurns (rules_of_machine M) x n s f
  after_back n s f h =
      let (t, g, own) = machine_after_exists M laws x text n in
      let same = one_after (rules_of S) x n t s g f (table_after M S sound table x n t g text own) h in
      subst (AfterTurns (rules_of_machine M) x n s) same.1 (subst (λ z. AfterTurns (rules_of_machine M) x n z g) same.0 own)

  pub same_after : (n : ℕ) (s : State) (f : ℕ) → AfterTurns (rules_of_machine M) x n s f ↔ AfterTurns (rules_of S) x n s f
  same_after n s f = (λ h. table_after M S sound table x n s f text h, λ h. after_back n s f h)

  run_back : (w : List ℕ) (d : Ending) → Run (rules_of S) x w d → Run (rules_of_machine M) x w d
  run_back w d h =
      let (v, e, own) = machine_run_exists M laws x in
      let same = one_run (rules_of S) x v w e d (table_run M S sound table x v e text own) h in
      subst (Run (rules_of_machine M) x w) same.1 (subst (λ z. Run (rules_of_machine M) x z e) same.0 own)

  pub same_run : (w : List ℕ) (d : Ending) → Run (rules_of_machine M) x w d ↔ Run (rules_of S) x w d
  same_run w d = (λ h. table_run M S sound table x w d text h, λ h. run_back w d h)

  turns_back : (n : ℕ) (s : State) → Turns (rules_of S) x n s → Turns (rules_of_machine M) x n s
  turns_back n s h =
      let (t, g, own) = machine_after_exists M laws x text n in
      let turns : Turns (rules_of_machine M) x n t = turns_of (rules_of_machine M) x n t g own in
      let there = (turns_to (rejects S) (rules_of_machine M) (rules_of S) (table_alike M S sound table) x n t text turns).0 in
      subst (Turns (rules_of_machine M) x n) (one_state (rules_of S) x n t s there h) turns

  -- A machine that is a table has the turns, demand and run of its specification.
  pub same_over : SameOver (rules_of_machine M) (rules_of S) x
  same_over = record {
    turns = λ n s. (λ h. (turns_to (rejects S) (rules_of_machine M) (rules_of S) (table_alike M S sound table) x n s text h).0, λ h. turns_back n s h);
    after = same_after;
    run = same_run;
  }
