-- What the plain program over a machine tells of each turn is how many bytes the turns ask for, and where the text starts.
use Rattle.std.proofs.Common.{◌≡◌, ℕ, zero, suc, ◌+◌, ◌≤◌, min, max, List, [], length, inl, inr, Option, Some, None, refl, sym, subst, arith}
use Rattle.std.specs.Prelude.{slice_get}
use Rattle.lex_semantics.specs.Text.{IsText}
use Rattle.lex_semantics.specs.Acting.{Ending}
use Rattle.lex_semantics.specs.Run.{State, Turn, NextFrom, first_state}
use Rattle.lex_semantics.specs.Demand.{AsksFrom}
use Rattle.lex_semantics.specs.Scanned.{AfterTurns}
use Rattle.lex_semantics.specs.Machine.{Machine, rules_of_machine}
use Rattle.lex_semantics.specs.MachineLaws.{MachineLaws}
use Rattle.lex_semantics.specs.Plain.{turn_of}
use Rattle.lex_semantics.specs.PlainMachine.{machine_candidates, far_of, told, told_of}
use Rattle.lex_semantics.specs.ScanLaws.{IsTold}
use Rattle.lex_semantics.proofs.PlainRun.{IsNext, turn_is}
use Rattle.lex_semantics.proofs.MachineRun.{machine_candidates_are}
use Rattle.lex_semantics.proofs.Reaches.{MachineAsks, machine_asks}

no_row : (i : ℕ) (row : ℕ × ℕ) → slice_get {X = ℕ × ℕ} [] i ≡ Some row → ⊥
no_row zero row p = cc
no_row (suc i) row p = cc

module _ (M : Machine) (laws : MachineLaws M) (x : List ℕ) (text : IsText x) where
  in_input : (s u : State) → Turn (rules_of_machine M) x s.place u → s.place.at ≤ length x
  in_input s u (inl turn) = omega (arith, turn.before_end)
  in_input s u (inr turn) = omega (arith, turn.at_end)

  -- one turn more, and how many bytes are asked for with it
  after_next : (k asked f : ℕ) (s t : State) → s.ended ≡ None → AfterTurns (rules_of_machine M) x k s asked → f ≡ min asked (length x) → NextFrom (rules_of_machine M) x s None t →
      (more : ℕ) × AfterTurns (rules_of_machine M) x (suc k) t more × (far_of M x s f ≡ min more (length x))
  after_next k asked f s t going h is next = from (machine_asks M laws x s.place text (in_input s next.0 next.1))
    where
      from : MachineAsks M x s.place → (more : ℕ) × AfterTurns (rules_of_machine M) x (suc k) t more × (far_of M x s f ≡ min more (length x))
      from (r, asks, bytes) = (
        max asked (s.place.at + r),
        (
          s,
          asked,
          h,
          subst (λ z. NextFrom (rules_of_machine M) x s z t) (sym going) next,
          subst (λ z. AsksFrom (rules_of_machine M) x s.place z asked (max asked (s.place.at + r))) (sym going) (r, asks, refl),
        ),
        omega (arith, is, bytes),
      )

  row_from : (n k asked f : ℕ) (s : State) (e : Option Ending) (o : Option State) → s.ended ≡ e → AfterTurns (rules_of_machine M) x k s asked → f ≡ min asked (length x) →
      ((u : State) → o ≡ Some u → IsNext (rules_of_machine M) x s u) → (i : ℕ) (row : ℕ × ℕ) → slice_get (told M x n f s e o) i ≡ Some row →
      IsTold (rules_of_machine M) x (suc (k + i)) row
  row_from zero k asked f s e o is h bytes next i row at = absurd (no_row i row at)
  row_from (suc n) k asked f s (Some d) o is h bytes next i row at = absurd (no_row i row at)
  row_from (suc n) k asked f s None None is h bytes next i row at = absurd (no_row i row at)
  row_from (suc n) k asked f s None (Some t) is h bytes next zero row at =
      let more = after_next k asked f s t is h bytes (next t refl) in
      let same : ◌≡◌ {A = ℕ × ℕ} (far_of M x s f, t.place.start) row = some_row at in
      let count : suc k ≡ suc (k + 0) = omega arith in
      subst (λ z. IsTold (rules_of_machine M) x z row) count (subst (IsTold (rules_of_machine M) x (suc k)) same (t, more.0, more.1, more.2, refl))
    where
      some_row : ◌≡◌ {A = Option (ℕ × ℕ)} (Some (far_of M x s f, t.place.start)) (Some row) → ◌≡◌ {A = ℕ × ℕ} (far_of M x s f, t.place.start) row
      some_row p = cc
  row_from (suc n) k asked f s None (Some t) is h bytes next (suc i) row at =
      let more = after_next k asked f s t is h bytes (next t refl) in
      let count : suc (suc k + i) ≡ suc (k + suc i) = omega arith in
      subst (λ z. IsTold (rules_of_machine M) x z row) count
      (row_from n (suc k) more.0 (far_of M x s f) t t.ended (turn_of (rules_of_machine M) (machine_candidates M) x t) refl more.1 more.2
      (λ u p. turn_is (rules_of_machine M) (machine_candidates M) (λ c line_start y ms z. machine_candidates_are M laws c line_start y ms z) x t u p) i row at)

  -- The rows that the plain program tells are true, row i after turn i + 1.
  pub rows_are_told : (n i : ℕ) (row : ℕ × ℕ) → slice_get (told_of M x n) i ≡ Some row → IsTold (rules_of_machine M) x (suc i) row
  rows_are_told n i row h =
      let count : suc (0 + i) ≡ suc i = omega arith in
      subst (λ z. IsTold (rules_of_machine M) x z row) count
      (row_from n 0 0 0 first_state None (turn_of (rules_of_machine M) (machine_candidates M) x first_state) refl (refl, refl) (omega arith)
      (λ u p. turn_is (rules_of_machine M) (machine_candidates M) (λ c line_start y ms z. machine_candidates_are M laws c line_start y ms z) x first_state u p) i row h)
