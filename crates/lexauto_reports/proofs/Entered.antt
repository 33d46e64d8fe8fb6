-- The entries of states that back up.
use Rattle.std.proofs.Common.{◌≡◌, ◌↔◌, ◌<◌, ◌+◌, ◌*◌, ℕ, List, [], ◌∷◌, ◌++◌, length, Option, Some, None, inl, inr, sym, ap, ◌∙◌, subst, arith}
use Rattle.std.proofs.lemmas.Bool.{cases_eq, cases_lt}
use Rattle.std.proofs.lemmas.List.{map_push}
use Rattle.std.specs.Prelude.{false}
use Rattle.lex_semantics.specs.Text.{Among, Ascending}
use Rattle.lex_semantics.specs.Spec.{Spec}
use Rattle.lex_semantics.specs.Machine.{state_after}
use Rattle.lex_semantics.specs.TableFor.{TableFor}
use Rattle.lex_semantics.proofs.TableReports.{back_word_is}
use Rattle.lexauto_dfa.specs.Parts.{conditions, states, start, accepts, goes_on, after}
use Rattle.lexauto_dfa.specs.Automata.{bare, machine_in}
use Rattle.lexauto_dfa.specs.declared.dfa.Parts.{Parts}
use Rattle.lexauto_dfa.proofs.Machinery.{past_end, walk_after}
use Rattle.lexauto_reports.specs.BackWords.{NotAfter, IsFirstWord, BacksUp, IsAfterBackWord, states_in}
use Rattle.lexauto_reports.specs.Searching.{at, place_of, AreFound}
use Rattle.lexauto_reports.specs.declared.backup.BackUp.{BackUp}
use Rattle.lexauto_dfa.proofs.Accepting.{among_push, ascending_push, not_both}
use Rattle.lexauto_reports.proofs.Counted.{leads_from, leads_into}

same_place : (o : Option ℕ) (i j : ℕ) → o ≡ Some i → o ≡ Some j → i ≡ j
same_place o i j e f = cc

clash : (o : Option ℕ) (j : ℕ) → o ≡ None → o ≡ Some j → ⊥
clash o j n e = absurd cc

-- the word of a state's group is its first
pub first_word : (p : Parts) (s j : ℕ) (words : List (List ℕ)) (places : List (Option ℕ)) (word : List ℕ) → AreFound p words places → place_of places (3 * s + 2) ≡ Some j → word ≡ at words j → IsFirstWord (bare p) s word
first_word p s j words places word a e is = subst (IsFirstWord (bare p) s) (sym is) (
  leads_from p s (at words j) (a.known (3 * s + 2) j e).1,
  λ v l. (let r = a.least (3 * s + 2) v (leads_into p s v l) in subst (λ i. NotAfter (at words i) v) (same_place (place_of places (3 * s + 2)) r.0 j r.1 e) r.2),
)

-- a state without a place does not back up
pub no_entry : (p : Parts) (s : ℕ) (words : List (List ℕ)) (places : List (Option ℕ)) → AreFound p words places → place_of places (3 * s + 2) ≡ None → BacksUp p s → ⊥
no_entry p s words places a none (g, n, w, l) = let r = a.least (3 * s + 2) w (leads_into p s w l) in clash (place_of places (3 * s + 2)) r.0 none r.1

pub is_state : (p : Parts) (s : ℕ) → BacksUp p s → s < states p
is_state p s b = elim (cases_lt s (states p)) [ inl y ↦ y | inr n ↦ absurd (not_both (goes_on p s) b.0 (past_end p.goes_on.items s false n)) ]

-- the entries of the first n states
pub record AreEntries (p : Parts) (entries : List BackUp) (n : ℕ) : Type 0 where
  pub ascending : Ascending (states_in entries)
  pub states : (s : ℕ) → Among (states_in entries) s ↔ ((s < n) × BacksUp p s)
  pub words : (e : BackUp) → Among entries e → IsFirstWord (bare p) e.state e.word.items

pub one_entry : (p : Parts) (entries : List BackUp) (n : ℕ) (e : BackUp) → AreEntries p entries n → e.state ≡ n → BacksUp p n → IsFirstWord (bare p) n e.word.items → AreEntries p (entries ++ e ∷ []) (n + 1)
one_entry p entries n e a is b word =
    let push = map_push (λ (f : BackUp). f.state) entries e in
    record {
      ascending = subst Ascending (sym push) (ascending_push (states_in entries) e.state a.ascending (λ x m. (let lt = ((a.states x).0 m).0 in omega (arith, lt, is))));
      states = λ s. (
        λ m. elim ((among_push (states_in entries) e.state s).0 (subst (λ l. Among l s) push m)) [
          | inl o ↦ (let r = (a.states s).0 o in let lt = r.0 in (omega (arith, lt), r.1))
          | inr same ↦ (omega (arith, same, is), subst (BacksUp p) (sym (same ∙ is)) b)
        ],
        λ h. subst (λ l. Among l s) (sym push) (elim (cases_lt s n) [
          | inl y ↦ (among_push (states_in entries) e.state s).1 (inl ((a.states s).1 (y, h.1)))
          | inr k ↦ (let lt = h.0 in (among_push (states_in entries) e.state s).1 (inr (omega (arith, lt, k, is))))
        ]),
      );
      words = λ f m. elim ((among_push entries e f).0 m) [
        | inl o ↦ a.words f o
        | inr same ↦ subst (λ (g : BackUp). IsFirstWord (bare p) g.state g.word.items) (sym same) (subst (λ s. IsFirstWord (bare p) s e.word.items) (sym is) word)
      ];
    }

pub not_entry : (p : Parts) (entries : List BackUp) (n : ℕ) → AreEntries p entries n → (BacksUp p n → ⊥) → AreEntries p entries (n + 1)
not_entry p entries n a no_back = record {
  ascending = a.ascending;
  states = λ s. (
    λ m. (let r = (a.states s).0 m in let lt = r.0 in (omega (arith, lt), r.1)),
    λ h. elim (cases_eq s n) [
      | inl same ↦ absurd (no_back (subst (BacksUp p) same h.1))
      | inr ne ↦ (let lt = h.0 in (a.states s).1 (omega (arith, lt, ne), h.1))
    ],
  );
  words = a.words;
}

-- In an automaton for a specification the states that back up are those after its back words.
pub back_words_are : (p : Parts) (S : Spec) → conditions p ≡ length S.conditions → TableFor (machine_in p S) S → (s : ℕ) → BacksUp p s ↔ IsAfterBackWord (machine_in p S) S s
back_words_are p S count table s = (to, from)
  where
    to : BacksUp p s → IsAfterBackWord (machine_in p S) S s
    to (g, n, w, (c, line_start, known, text, two, is)) =
        let there : state_after (machine_in p S) c line_start w ≡ s = walk_after p S (start p c line_start) w ∙ is in
        (c, line_start, w, (back_word_is (machine_in p S) S table c line_start w (omega (arith, known, count)) text).1 (two, ap (goes_on p) there ∙ g, ap (accepts p) there ∙ n), there)

    from : IsAfterBackWord (machine_in p S) S s → BacksUp p s
    from (c, line_start, w, b, is) =
        let there : after p (start p c line_start) w ≡ s = sym (walk_after p S (start p c line_start) w) ∙ is in
        let r = (back_word_is (machine_in p S) S table c line_start w b.condition b.text).0 b in
        let known = b.condition in
        (ap (goes_on p) (sym is) ∙ r.1, ap (accepts p) (sym is) ∙ r.2, w, (c, line_start, omega (arith, known, count), b.text, b.two_or_more, there))
