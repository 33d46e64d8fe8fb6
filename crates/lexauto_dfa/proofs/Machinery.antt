-- Automata, and the machines that they are with a specification's actions.
use mathlib.Core.Logic.{∥∥₁_elim, ∥∥₁_map}
use Rattle.std.proofs.Props.{props}
use Rattle.std.specs.Prelude.{◌≡◌, ◌≢◌, ◌↔◌, ℕ, zero, suc, ◌+◌, ◌*◌, ◌<◌, ◌≤◌, Bool, true, false, List, [], ◌∷◌, length, nat_lt, Option, Some, None, slice_get, slice_index, slice_index_or, Vec}
use Rattle.std.proofs.Common.{inl, inr, refl, ap, sym, subst, ◌∙◌, arith, Global}
use Rattle.std.proofs.lemmas.Bool.{cases_Bool, cases_lt, cond-true, cond-false}
use Rattle.std.proofs.lemmas.List.{length-map}
use Rattle.std.specs.declared.rc.Rc.{Rc}
use Rattle.lex_semantics.specs.Text.{Among, Ascending}
use Rattle.lex_semantics.specs.Spec.{Spec, Rule, statements_at}
use Rattle.lex_semantics.specs.Sound.{IsSound}
use Rattle.lex_semantics.specs.Legal.{IsAction}
use Rattle.lex_semantics.proofs.Actions.{action_of}
use Rattle.lex_semantics.specs.Machine.{walk}
use Rattle.lex_semantics.specs.MachineLaws.{MachineLaws, LeadsToAccept}
use Rattle.lexauto_dfa.specs.Machines as M
use Rattle.lexauto_dfa.specs.Parts.{states, start, next, lists_in, accepts, goes_on, after, IsReachedIn, LeadsOn}
use Rattle.lexauto_dfa.specs.Invariant.{IsAutomaton}
use Rattle.lexauto_dfa.specs.Automata.{machine_in}
use Rattle.lexauto_dfa.specs.declared.dfa.Parts.{Parts}

same_bool : (a b : Bool) → IsProp (a ≡ b)
same_bool a b = Prim.hlevel props

pub clash : (b : Bool) → b ≡ false → b ≡ true → ⊥
clash b f t = absurd cc

pub past_end : {A : Type 0} (xs : List A) (i : ℕ) (d : A) → length xs ≤ i → slice_index_or xs i d ≡ d
past_end [] i d h = refl
past_end (x ∷ xs) zero d h = absurd (omega (arith, h))
past_end (x ∷ xs) (suc i) d h = past_end xs i d (omega (arith, h))

there_is : {A : Type 0} (xs : List A) (i : ℕ) → i < length xs → slice_get xs i ≡ None → ⊥
there_is [] i h e = omega (arith, h)
there_is (x ∷ xs) zero h e = absurd cc
there_is (x ∷ xs) (suc i) h e = there_is xs i (omega (arith, h)) e

-- the machine's walk is the automaton's
pub walk_after : (p : Parts) (S : Spec) (s : ℕ) (w : List ℕ) → walk (machine_in p S) s w ≡ after p s w
walk_after p S s [] = refl
walk_after p S s (b ∷ w) = walk_after p S (next p s b) w

leads_there : (p : Parts) (S : Spec) (s : ℕ) → LeadsToAccept (machine_in p S) s → LeadsOn p s
leads_there p S s (u, text, some, i, a) = (u, text, some, i, subst (λ (t : ℕ). Among (accepts p t) i) (walk_after p S s u) a)

leads_back : (p : Parts) (S : Spec) (s : ℕ) → LeadsOn p s → LeadsToAccept (machine_in p S) s
leads_back p S s (u, text, some, i, a) = (u, text, some, i, subst (λ (t : ℕ). Among (accepts p t) i) (sym (walk_after p S s u)) a)

-- The lists of a machine that keeps its laws, all of whose states are reached, make an automaton.
pub automaton_of_laws : (p : Parts) (S : Spec) → length p.starts.items ≡ length S.conditions → MachineLaws (machine_in p S)
    → ((s : ℕ) → s < states p → M.IsDeadOrReached (machine_in p S) S s)
    → 1 ≤ states p → states p ≤ 8192
    → length p.line_starts.items ≡ length p.starts.items → length p.next.items ≡ 256 * length p.goes_on.items → length p.accepts.items ≡ length p.goes_on.items
    → ((c : ℕ) → c < length p.starts.items → slice_index p.starts.items c < states p)
    → ((c : ℕ) → c < length p.line_starts.items → slice_index p.line_starts.items c < states p)
    → ((i : ℕ) → i < length p.next.items → slice_index p.next.items i < states p)
    → IsAutomaton p
automaton_of_laws p S count laws reached some few lines rows lists starts_known lines_known next_known = record {
  some = some;
  few = few;
  lines = lines;
  rows = rows;
  lists = lists;
  starts_known = starts_known;
  lines_known = lines_known;
  next_known = next_known;
  dead_stays = laws.dead_stays;
  dead_accepts = laws.dead_accepts;
  reached = λ s low other. ∣ from s other (reached s low) ∣₁;
  ascending = λ s low. laws.ascending s;
  goes_on = λ s low. (
    λ g. ∥∥₁_map ((laws.goes_on s).0 g) (leads_there p S s),
    λ l. (laws.goes_on s).1 (∥∥₁_map l (leads_back p S s)),
  );
}
  where
    from : (s : ℕ) → s ≢ 0 → M.IsDeadOrReached (machine_in p S) S s → IsReachedIn p s
    from s other (inl e) = absurd (other e)
    from s other (inr (c, line_start, w, low, text, e)) = (c, line_start, w, omega (arith, count, low), text, sym (walk_after p S (start p c line_start) w) ∙ e)

-- past the last state nothing is accepted, and all leads to the dead state
module _ (p : Parts) (a : IsAutomaton p) where
  past_accepts : (s : ℕ) → states p ≤ s → accepts p s ≡ []
  past_accepts s h = past_end (lists_in p) s [] (let n = length-map p.accepts.items (λ (v : Rc (Vec ℕ Global) Global). v.value.items) in let l = a.lists in omega (arith, n, l, h))

  past_goes_on : (s : ℕ) → states p ≤ s → goes_on p s ≡ false
  past_goes_on s h = past_end p.goes_on.items s false h

  past_next : (s b : ℕ) → states p ≤ s → next p s b ≡ 0
  past_next s b h = elim (cases_Bool (nat_lt b 256)) [
    | inl t ↦ cond-true (nat_lt b 256) (slice_index p.next.items (s * 256 + b)) 0 t ∙ past_end p.next.items (s * 256 + b) 0 (let r = a.rows in omega (arith, r, h))
    | inr f ↦ cond-false (nat_lt b 256) (slice_index p.next.items (s * 256 + b)) 0 f
  ]

  pub dead_after : (w : List ℕ) → after p 0 w ≡ 0
  dead_after [] = refl
  dead_after (b ∷ w) = ap (λ (s : ℕ). after p s w) (a.dead_stays b) ∙ dead_after w

  nowhere : (s : ℕ) → states p ≤ s → LeadsOn p s → ⊥
  nowhere s h ([], text, some, i, among) = omega (arith, some)
  nowhere s h (b ∷ w, text, some, i, among) =
      let there : after p (next p s b) w ≡ 0 = ap (λ (t : ℕ). after p t w) (past_next s b h) ∙ dead_after w in
      absurd (subst (λ (l : List ℕ). Among l i) (ap (λ (t : ℕ). accepts p t) there ∙ a.dead_accepts) among)

  ascending_all : (s : ℕ) → Ascending (accepts p s)
  ascending_all s = elim (cases_lt s (states p)) [
    | inl h ↦ a.ascending s h
    | inr h ↦ subst Ascending (sym (past_accepts s h)) tt
  ]

  leads_all : (s : ℕ) → (goes_on p s ≡ true) ↔ ∥ LeadsOn p s ∥₁
  leads_all s = elim (cases_lt s (states p)) [
    | inl h ↦ a.goes_on s h
    | inr h ↦ (λ g. absurd (clash (goes_on p s) (past_goes_on s h) g), λ l. ∥∥₁_elim l (same_bool (goes_on p s) true) (λ q. absurd (nowhere s h q)))
  ]

  -- an automaton that accepts rules of a specification, with legal actions, is a machine
  pub machine_laws : (S : Spec) → 1 ≤ length S.conditions → ((s i : ℕ) → s < states p → Among (accepts p s) i → i < length S.rules)
      → ((i : ℕ) → i < length S.rules → IsAction (length S.conditions) (statements_at (slice_get S.rules i))) → MachineLaws (machine_in p S)
  machine_laws S some known legal = record {
    some_condition = some;
    in_range = λ s i among. elim (cases_lt s (states p)) [
      | inl h ↦ known s i h among
      | inr h ↦ absurd (subst (λ (l : List ℕ). Among l i) (past_accepts s h) among)
    ];
    ascending = ascending_all;
    dead_stays = a.dead_stays;
    dead_accepts = a.dead_accepts;
    goes_on = λ s. (
      λ g. ∥∥₁_map ((leads_all s).0 g) (leads_back p S s),
      λ l. (leads_all s).1 (∥∥₁_map l (leads_there p S s)),
    );
    legal = legal;
  }

  pub sound_machine_laws : (S : Spec) → IsSound S → ((s i : ℕ) → s < states p → Among (accepts p s) i → i < length S.rules) → MachineLaws (machine_in p S)
  sound_machine_laws S sound known = machine_laws S sound.some_condition known (λ i h. statements_legal i h (slice_get S.rules i) refl)
    where
      statements_legal : (i : ℕ) → i < length S.rules → (o : Option Rule) → slice_get S.rules i ≡ o → IsAction (length S.conditions) (statements_at o)
      statements_legal i h None e = absurd (there_is S.rules i h e)
      statements_legal i h (Some r) e = action_of (length S.conditions) r.statements (sound.rules i r e).legal
