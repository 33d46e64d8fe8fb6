-- Where no rule has REJECT, a state of an automaton for a specification accepts at most one.
use mathlib.Core.Logic.{∥∥₁_elim}
use Rattle.std.proofs.Common.{◌≡◌, ℕ, ◌<◌, ◌≤◌, Bool, false, List, [], ◌∷◌, length, refl, sym, ap, subst, ◌∙◌, arith, inl, inr}
use Rattle.std.specs.Coded.{le_prop}
use Rattle.std.proofs.lemmas.Bool.{cases_eq}
use Rattle.lex_semantics.specs.Text.{IsText, Among, Ascending}
use Rattle.lex_semantics.specs.Spec.{Spec, rejects}
use Rattle.lex_semantics.specs.Machine.{state_after}
use Rattle.lex_semantics.specs.TableFor.{TableFor, Accepted}
use Rattle.lexauto_dfa.specs.Parts.{states, conditions, start, accepts, IsReachedIn}
use Rattle.lexauto_dfa.specs.Invariant.{IsAutomaton}
use Rattle.lexauto_dfa.specs.Automata.{machine_in}
use Rattle.lexauto_dfa.specs.declared.dfa.Parts.{Parts}
use Rattle.lexauto_dfa.proofs.Machinery.{walk_after}

one_at_most : (l : List ℕ) → Ascending l → ((i j : ℕ) → Among l i → Among l j → i < j → ⊥) → length l ≤ 1
one_at_most [] up h = omega arith
one_at_most (x ∷ []) up h = omega arith
one_at_most (x ∷ y ∷ ys) up h = absurd (h x y (inl refl) (inr (inl refl)) (up.0 y (inl refl)))

module _ (p : Parts) (a : IsAutomaton p) (S : Spec) (count : conditions p ≡ length S.conditions) (table : TableFor (machine_in p S) S) (none : rejects S ≡ false) where
  first_fits : (c : ℕ) (line_start : Bool) (w : List ℕ) (i : ℕ) → c < length S.conditions → IsText w → Among (accepts p (state_after (machine_in p S) c line_start w)) i → Accepted S c line_start w i
  first_fits c line_start w i low text among = (table.accepts c line_start w i low text).0 among

  reached : (s : ℕ) → s < states p → IsReachedIn p s → length (accepts p s) ≤ 1
  reached s h (c, line_start, w, low, text, e) =
      let known : c < length S.conditions = omega (arith, low, count) in
      let there : state_after (machine_in p S) c line_start w ≡ s = walk_after p S (start p c line_start) w ∙ e in
      one_at_most (accepts p s) (a.ascending s h) (λ i j x y less.
      let f = first_fits c line_start w i known text (subst (λ (t : ℕ). Among (accepts p t) i) (sym there) x) in
      let g = first_fits c line_start w j known text (subst (λ (t : ℕ). Among (accepts p t) j) (sym there) y) in
      g.1 none i less f.0)

  pub first_alone : (s : ℕ) → s < states p → length (accepts p s) ≤ 1
  first_alone s h = elim (cases_eq s 0) [
    | inl e ↦ (let dead = ap (λ (l : List ℕ). length l) (ap (λ (t : ℕ). accepts p t) e ∙ a.dead_accepts) in omega (arith, dead))
    | inr n ↦ ∥∥₁_elim (a.reached s h n) le_prop (reached s h)
  ]
