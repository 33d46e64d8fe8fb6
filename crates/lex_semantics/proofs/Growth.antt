-- From turn to turn a scan that has not ended goes on: the measure of a loop over turns.
use Rattle.std.proofs.Common.{◌≡◌, ℕ, zero, suc, ◌+◌, ◌-◌, ◌*◌, ◌≤◌, ◌<◌, Bool, List, inl, inr, Option, Some, None, refl, sym, ◌∙◌, ap, subst, arith}
use Rattle.lex_semantics.specs.Rules.{Rules}
use Rattle.lex_semantics.specs.Laws.{Laws}
use Rattle.lex_semantics.specs.Legal.{IsAction}
use Rattle.lex_semantics.specs.Candidates.{Candidate, Candidates}
use Rattle.lex_semantics.specs.Acting.{Ending}
use Rattle.lex_semantics.specs.Run.{Place, State, Turn, NextFrom, Turns}
use Rattle.lex_semantics.proofs.Once.{one_state, one_turn}
use Rattle.lex_semantics.proofs.Ends.{Inside, Grows, Moves, turn_exists}

no_both : {A : Type 0} (o : Option Ending) (e : Ending) → o ≡ Some e → o ≡ None → A
no_both o e p q = absurd (no (sym p ∙ q))
  where
    no : Some e ≡ None → ⊥
    no h = cc

module _ (R : Rules) (l : Laws R) (legal : (i : ℕ) → i < R.count → IsAction R.conditions (R.statements i))
    (exist : (c : ℕ) (line_start : Bool) (y : List ℕ) → (ms : List Candidate) × Candidates R c line_start y ms) (x : List ℕ) where
  moved : (s t : State) → Inside x s.place → (e : Option Ending) → s.ended ≡ e → NextFrom R x s e t → s.ended ≡ None → t.ended ≡ None → Inside x t.place × Grows s.place t.place
  moved s t h (Some d) is next going goes = no_both s.ended d is going
  moved s t h None is (u, turn, same) going goes = from (turn_exists R l legal exist x s.place h)
    where
      from : ((v : State) × Turn R x s.place v × Moves x s.place v) → Inside x t.place × Grows s.place t.place
      from (v, other, moves) =
          let one : v ≡ u = one_turn R x s.place v u other turn in
          on (subst (Moves x s.place) one moves)
        where
          on : Moves x s.place u → Inside x t.place × Grows s.place t.place
          on (inl e) = no_both t.ended e.0 (ap (λ (z : State). z.ended) same ∙ e.1) goes
          on (inr k) = (subst (λ (z : State). Inside x z.place) (sym same) k.1, subst (λ (z : State). Grows s.place z.place) (sym same) k.2)

  ended_first : (s t : State) (e : Option Ending) → s.ended ≡ e → NextFrom R x s e t → t.ended ≡ None → s.ended ≡ None
  ended_first s t (Some d) is next goes = no_both t.ended d (ap (λ (z : State). z.ended) next ∙ is) goes
  ended_first s t None is next goes = is

  -- the place lies in the input
  pub turns_inside : (n : ℕ) (s : State) → Turns R x n s → s.ended ≡ None → Inside x s.place
  turns_inside zero s turns going = subst (λ (z : State). Inside x z.place) (sym turns) (record { ordered = omega arith; fits = omega arith })
  turns_inside (suc n) t (s, turns, next) goes =
      let going = ended_first s t s.ended refl next goes in
      (moved s t (turns_inside n s turns going) s.ended refl next going goes).0

  -- the text's start grows, or it stays and the place grows
  pub turns_grow : (n : ℕ) (s t : State) → Turns R x n s → Turns R x (suc n) t → t.ended ≡ None → Grows s.place t.place
  turns_grow n s t turns (b, before, next) goes =
      let same : b ≡ s = one_state R x n b s before turns in
      let next' : NextFrom R x s s.ended t = subst (λ (z : State). NextFrom R x z z.ended t) same next in
      let going = ended_first s t s.ended refl next' goes in
      (moved s t (turns_inside n s turns going) s.ended refl next' going goes).1

-- A number that falls from turn to turn, where no place passes m.
pub falls : (m : ℕ) (p q : Place) → p.start ≤ p.at → p.at ≤ m → q.start ≤ q.at → q.at ≤ m → Grows p q →
    (m - q.start) * (m + 1) + (m - q.at) < (m - p.start) * (m + 1) + (m - p.at)
falls m p q a b c d (inl lt) = rows (m - p.start) (m - q.start) (omega arith)
  where
    rows : (i j : ℕ) → j < i → j * (m + 1) + (m - q.at) < i * (m + 1) + (m - p.at)
    rows zero j h = absurd (omega (arith, h))
    rows (suc i) zero h = omega arith
    rows (suc i) (suc j) h = let r : j * (m + 1) + (m - q.at) < i * (m + 1) + (m - p.at) = rows i j (omega (arith, h)) in omega arith
falls m p q a b c d (inr k) = let e : m - q.start ≡ m - p.start = omega (arith, k.0) in rw e (omega (arith, k.1))
