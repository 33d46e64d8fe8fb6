-- The lists of a table of classes are the least automaton's.
use mathlib.Core.Logic.{∥∥₁_map}
use Rattle.std.proofs.Common.{inl, inr, ◌≡◌, ◌↔◌, ℕ, ◌+◌, ◌*◌, ◌-◌, ◌++◌, ◌<◌, List, [], true, length, ap, sym, subst, ◌∙◌, arith, Vec, Global}
use Rattle.std.proofs.lemmas.List.{length-map}
use Rattle.std.proofs.lemmas.Bool.{cases_Bool, cond-false, ltb-true}
use Rattle.std.specs.Prelude.{slice_index, nat_lt}
use Rattle.std.specs.declared.rc.Rc.{Rc}
use Rattle.lex_semantics.specs.Text.{Among, Ascending}
use Rattle.lexauto_dfa.specs.Invariant.{IsAutomaton}
use Rattle.lex_semantics.specs.Spec.{Spec}
use Rattle.lex_semantics.specs.MachineLaws.{MachineLaws}
use Rattle.lex_semantics.specs.TableFor.{TableFor}
use Rattle.lexauto_dfa.specs.Automata.{machine_in}
use Rattle.lexauto_dfa.specs.Parts.{conditions, states, next, accepts, goes_on, LeadsOn}
use Rattle.lexauto_dfa.specs.declared.dfa.Parts.{Parts}
use Rattle.lexauto_dfa.specs.Numbers.{AreMade, AreCalled, AreRows, AreStarts}
use Rattle.lexauto_dfa.specs.Quotients.{AreClasses, IsQuotient, IsMinimised}
use Rattle.lexauto_dfa.specs.Building.{FitsTable, ArePartsOf}
use Rattle.lexauto_dfa.specs.Least.{SameFuture, AcceptsAs, GoesOnAs, IsLeast, IsNumbered}
use Rattle.lexauto_dfa.specs.Least.{by_turns}
use Rattle.lexauto_dfa.specs.Views.{automaton_of}
use Rattle.lexauto_dfa.specs.declared.least.tables.ClassTable.{ClassTable}
use Rattle.lexauto_dfa.proofs.ByTurns.{turns_length, turn_even, turn_odd}
use Rattle.lexauto_dfa.proofs.Wholes.{is_whole}
use Rattle.lexauto_dfa.specs.Numbering.{InOrder}
use Rattle.lexauto_dfa.proofs.MachineLists.{calls_are}
use Rattle.lexauto_dfa.proofs.Minimised.{minimised, own, future}
use Rattle.lexauto_dfa.proofs.SameTable.{laws_again, table_again}
use Rattle.lexauto_dfa.proofs.Joined.{accepts_as, dead_future, future_of, goes_on_as, is_least, least_stays, moved, reached_in}

-- q is the least automaton that accepts as p does
pub record IsLeastOf (p q : Parts) : Type 0 where
  pub automaton : IsAutomaton q
  pub conditions_are : conditions p ≡ conditions q
  pub accepts_alike : AcceptsAs p q
  pub goes_on_alike : GoesOnAs p q
  pub least : IsLeast q
  pub numbered : IsNumbered q
  pub laws : (S : Spec) → MachineLaws (machine_in p S) → MachineLaws (machine_in q S)
  pub table : (S : Spec) → TableFor (machine_in p S) S → TableFor (machine_in q S) S

module _ (p : Parts) (a : IsAutomaton p) (classes : List ℕ) (cl : AreClasses (automaton_of p) classes) (t : ClassTable)
    (m : AreMade classes (by_turns p.starts.items p.line_starts.items) p.next.items t.members.items t.starts.items t.table.items) where
  pub fits : FitsTable p t
  fits = record {
    few = omega (arith, m.few, cl.all);
    known = λ k h. let l = m.known k h in omega (arith, l, cl.all);
    starts_len = m.starts_len ∙ turns_length p.starts.items p.line_starts.items a.lines;
    starts_known = λ i h. (m.starts_are i h).low;
    rows_len = m.rows_len;
    rows_known = λ i h. (m.rows_are i h).1.low;
  }

  module _ (q : Parts) (i : ArePartsOf p t q) where
    is_quotient : IsQuotient (automaton_of p) classes t.members.items (automaton_of q)
    is_quotient = record {
      count = i.count;
      known = λ k h. let l = m.known k h in omega (arith, l, cl.all);
      one = m.one;
      zero_is = m.zero_is;
      starts_len = ap (λ (xs : List ℕ). length xs) i.starts ∙ m.starts_len;
      starts = subst (λ (xs : List ℕ). AreStarts classes (by_turns p.starts.items p.line_starts.items) t.members.items xs) (sym i.starts) m.starts_are;
      rows_len = ap (λ (xs : List ℕ). length xs) i.next ∙ m.rows_len;
      rows = subst (λ (xs : List ℕ). AreRows classes p.next.items t.members.items xs) (sym i.next) m.rows_are;
      called = subst (λ (ys : List ℕ). AreCalled (length (by_turns q.starts.items q.line_starts.items)) t.members.items (by_turns q.starts.items q.line_starts.items ++ ys)) (sym i.next)
          (subst (λ (xs : List ℕ). AreCalled (length xs) t.members.items (xs ++ t.table.items)) (sym i.starts) m.called);
      lists_len = length-map q.accepts.items (λ (v : Rc (Vec ℕ Global) Global). v.value.items) ∙ i.lists_len;
      lists = i.lists;
    }

    pub is_minimised : IsMinimised (automaton_of p) (automaton_of q)
    is_minimised = minimised (automaton_of p) (is_whole p a) classes cl (dead_future p a) t.members.items (automaton_of q) is_quotient

    -- a state's member
    member : ℕ → ℕ
    member k = slice_index t.members.items k

    member_low : (k : ℕ) → k < states q → member k < states p
    unfolding member
    member_low k h = is_quotient.known k (let c = i.count in omega (arith, c, h))

    member_future : (k : ℕ) → k < states q → SameFuture q k p (member k)
    unfolding member
    member_future k h =
        let low : k < length t.members.items = let c = i.count in omega (arith, c, h) in
        future_of q k p (slice_index t.members.items k)
        (future (automaton_of p) (is_whole p a) classes cl (dead_future p a) t.members.items (automaton_of q) is_quotient k (slice_index t.members.items k)
        (own (automaton_of p) (is_whole p a) classes cl (dead_future p a) t.members.items (automaton_of q) is_quotient k low))

    -- each state accepts what one of the old states accepts
    pub accepts_member : (k : ℕ) → k < states q → (x : ℕ) × (x < states p) × (accepts q k ≡ accepts p x)
    accepts_member k h = (member k, member_low k h, member_future k h [] tt)

    leads_to : (s k : ℕ) (r u : Parts) → SameFuture r s u k → LeadsOn r s → LeadsOn u k
    leads_to s k r u same (w, text, some, j, among) = (w, text, some, j, subst (λ (l : List ℕ). Among l j) (same w text) among)

    leads : (k : ℕ) → k < states q → (goes_on q k ≡ true) ↔ ∥ LeadsOn q k ∥₁
    unfolding member
    leads k h =
        let flag : goes_on q k ≡ goes_on p (member k) = i.flags k (let c = i.count in omega (arith, c, h)) in
        let law = a.goes_on (member k) (member_low k h) in
        let same = member_future k h in (
          λ g. ∥∥₁_map (law.0 (sym flag ∙ g)) (leads_to (member k) k p q (λ w text. sym (same w text))),
          λ l. flag ∙ law.1 (∥∥₁_map l (leads_to k (member k) q p same)),
        )

    dead_row : (b : ℕ) → next q 0 b ≡ 0
    dead_row b = elim (cases_Bool (nat_lt b 256)) [
      | inl t ↦ moved q 0 b t ∙ least_stays (automaton_of q) is_minimised.whole is_minimised.least b (ltb-true b 256 t)
      | inr f ↦ cond-false (nat_lt b 256) (slice_index q.next.items (0 * 256 + b)) 0 f
    ]

    pub is_automaton : IsAutomaton q
    is_automaton =
        let c = i.count in
        let whole = is_minimised.whole in
        let turns = turns_length q.starts.items q.line_starts.items i.lines in
        record {
          some = whole.some;
          few = (let f = m.few in let all = cl.all in let few = a.few in omega (arith, c, f, all, few));
          lines = i.lines;
          rows = whole.rows;
          lists = i.lists_len ∙ sym c;
          starts_known = λ k h. subst (λ (x : ℕ). x < states q) (turn_even q.starts.items q.line_starts.items k i.lines) (whole.starts_known (2 * k) (omega (arith, turns, h)));
          lines_known = λ k h. subst (λ (x : ℕ). x < states q) (turn_odd q.starts.items q.line_starts.items k i.lines) (whole.starts_known (2 * k + 1) (let l = i.lines in omega (arith, turns, h, l)));
          next_known = whole.targets_known;
          dead_stays = dead_row;
          dead_accepts = is_minimised.least.dead [] tt;
          reached = λ s h other. ∣ reached_in q i.lines s (is_minimised.least.reached s h other) ∣₁;
          ascending = λ s h. (let (x, low, e) = accepts_member s h in subst Ascending (sym e) (a.ascending x low));
          goes_on = leads;
        }

    pub is_least_of : IsLeastOf p q
    is_least_of =
        let same : AcceptsAs p q = accepts_as p q a is_automaton (sym i.conditions) is_minimised in
        let flags : GoesOnAs p q = goes_on_as p q a is_automaton same in
        record {
          automaton = is_automaton;
          conditions_are = sym i.conditions;
          accepts_alike = same;
          goes_on_alike = flags;
          least = is_least q is_automaton is_minimised.least;
          numbered = subst (λ l. InOrder 0 l (states q - 1)) (sym (calls_are q is_automaton.lines is_automaton.rows)) is_minimised.numbered;
          laws = λ S. laws_again p q S is_automaton accepts_member;
          table = λ S. table_again p q S same flags;
        }
