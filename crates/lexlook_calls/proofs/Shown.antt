-- What is told of a specification by the one in which each action is REJECT: it holds of it, and has names and lines.
use Rattle.std.proofs.Common.{◌≡◌, ◌<◌, ◌≤◌, ℕ, zero, suc, Bool, List, [], ◌∷◌, length, map, Option, Some, None, refl, sym, ap, subst, ◌∙◌, arith}
use Rattle.std.specs.Prelude.{slice_get}
use Rattle.std.proofs.lemmas.List.{length-map}
use Rattle.lex_semantics.specs.Spec.{Spec, Rule}
use Rattle.lex_semantics.specs.Text.{flag}
use Rattle.lex_semantics.specs.TableFor.{TableFor}
use Rattle.lex_semantics.specs.Subsets.{HasSubsets, all_positions}
use Rattle.lexauto.specs.declared.error.BuildError.{BuildError}
use Rattle.lexauto.specs.declared.error.BuildError.TheVariants as builds
use Rattle.lexauto.specs.declared.subsets.Limits.{Limits}
use Rattle.lexauto_dfa.specs.Automata.{conditions_of, machine_of, states_of}
use Rattle.lexauto_dfa.specs.declared.dfa.Dfa.{Dfa}
use Rattle.lexkit.proofs.Refusing.{by_reason}
use Rattle.lexkit.specs.Generated.{lines_of}
use Rattle.lexkit.specs.Headline.{BuildRefusal, IsWithin}
use Rattle.lexlook_specs.specs.Matches.{matches_in, matches_of}
use Rattle.lexlook_specs.specs.Rejecting.{rejecting, rejecting_rule}
use Rattle.lexlook_specs.specs.Words.{AreWords, IsWordOf, TellsDefault}
use Rattle.lexlook_specs.specs.declared.words.finding.ShownText.{ShownText}
use Rattle.lexlook_specs.specs.declared.words.finding.Word.{Word}
use Rattle.lexlook_specs.specs.declared.words.finding.Word.TheVariants.{Taken, Never}
use Rattle.lexlook_specs.specs.declared.words.finding.Words.{Words}
use Rattle.lex_semantics.specs.Spec.{has_reject, statements_at}
use Rattle.lexlook_calls.specs.Looks.{names_of}
use Rattle.lexlook_calls.specs.Words.{AreLabelled, AreWordsOf, HasLabel, HasLabels, word_lines}
use Rattle.lexlook_specs.specs.Overlaps.{AreOverlaps, IsOverlap}
use Rattle.lexlook_specs.specs.declared.words.overlapping.Overlap.{Overlap}
use Rattle.lexlook_calls.specs.Overlaps.{AreOverlapsOf, ArePairLabels, max_pairs, overlap_lines}
use Rattle.lexlook_specs.proofs.FitsAlike.{overlaps_shown_by, positions_same, subsets_from, subsets_to, words_shown_by}

known_rule : (rs : List Rule) (i : ℕ) (r : Rule) → slice_get rs i ≡ Some r → i < length rs
known_rule [] i r e = absurd cc
known_rule (q ∷ rs) zero r e = omega arith
known_rule (q ∷ rs) (suc i) r e = let low = known_rule rs i r e in omega (arith, low)

pub labelled : (S : Spec) (v : Words) → AreWords (matches_of S) v → AreLabelled (names_of S.conditions) (lines_of S.rules) v
labelled S v a = record {
  each = a.each ∙ sym (length-map S.rules (λ (r : Rule). r.line));
  rules = λ i x e. label i x (a.rules i x e);
  in_each = a.in_each ∙ sym n;
  defaults = λ c o e. of_default c o (a.defaults c o e);
}
  where
    n : length (names_of S.conditions) ≡ length S.conditions
    n = length-map S.conditions (λ k. k.name)

    m : length (lines_of S.rules) ≡ length S.rules
    m = length-map S.rules (λ (r : Rule). r.line)

    label : (i : ℕ) (x : Word) → IsWordOf (matches_of S) i x → HasLabels (names_of S.conditions) (lines_of S.rules) x
    label i (Taken q) t = (let low = t.input.condition in omega (arith, low, n))
    label i (Never js) t = λ j b. (let r = (t.takers j).0 b in let low = known_rule S.rules j (r.5.0.1).rule (r.5.0.1).at in omega (arith, low, m))

    of_default : (c : ℕ) (o : Option ShownText) → TellsDefault (matches_of S) c o → HasLabel (names_of S.conditions) o
    of_default c None t = tt
    of_default c (Some q) t = (let low = t.0.input.condition in omega (arith, low, n))

-- the names and lines stay as they were
pub names_same : (S T : Spec) → T ≡ rejecting S → names_of T.conditions ≡ names_of S.conditions
names_same S T e = ap (λ (U : Spec). names_of U.conditions) e

lines_map : (rs : List Rule) → lines_of (map rejecting_rule rs) ≡ lines_of rs
lines_map [] = refl
lines_map (r ∷ rs) = ap (λ (ls : List ℕ). r.line ∷ ls) (lines_map rs)

pub lines_same : (S T : Spec) → T ≡ rejecting S → lines_of T.rules ≡ lines_of S.rules
lines_same S T e = ap (λ (U : Spec). lines_of U.rules) e ∙ lines_map S.rules

-- what is refused of one is refused of the other
pub refused_alike : (limits : Limits) (S T : Spec) (e : BuildError) → T ≡ rejecting S → (e ≡ builds.TooManyPositions → limits.positions < all_positions T.rules) → (e ≡ builds.TooManyStates → (n : ℕ) → HasSubsets T n → limits.states < n)
    → BuildRefusal limits S e
refused_alike limits S T e is positions states =
    by_reason limits S e (λ many. subst (λ (n : ℕ). limits.positions < n) (ap (λ (U : Spec). all_positions U.rules) is ∙ positions_same S.rules) (positions many))
    (λ many n h. states many n (subst (λ (U : Spec). HasSubsets U n) (sym is) (subsets_from S n h)))

-- what is within the limits by the one is so by the other
within_alike : (limits : Limits) (S T : Spec) (n : ℕ) → T ≡ rejecting S → HasSubsets T n → all_positions T.rules ≤ limits.positions → n ≤ limits.states → IsWithin limits S
within_alike limits S T n is subsets positions states = record {
  few_positions = subst (λ (n : ℕ). n ≤ limits.positions) (ap (λ (U : Spec). all_positions U.rules) is ∙ positions_same S.rules) positions;
  states = n;
  subsets = subsets_to S n (subst (λ (U : Spec). HasSubsets U n) is subsets);
  few_states = states;
}

-- what is found by the automaton of the one is told of the other
pub words_shown : (limits : Limits) (S T : Spec) (d : Dfa) (rejects : List Bool) (v : Words) → T ≡ rejecting S → TableFor (machine_of d T) T → conditions_of d ≡ length T.conditions → HasSubsets T (states_of d)
    → all_positions T.rules ≤ limits.positions → states_of d ≤ limits.states → length rejects ≡ length S.rules → ((i : ℕ) → flag rejects i ≡ has_reject (statements_at (slice_get S.rules i)))
    → AreWords (matches_in d.parts rejects) v → AreWordsOf limits S v
words_shown limits S T d rejects v is table count subsets positions states len flags words = record {
  within = within_alike limits S T (states_of d) is subsets positions states;
  words = words_shown_by S T d.parts rejects v is count table len flags words;
}

pub overlaps_shown : (limits : Limits) (S T : Spec) (d : Dfa) (rejects : List Bool) (v : List Overlap) → T ≡ rejecting S → TableFor (machine_of d T) T → conditions_of d ≡ length T.conditions → HasSubsets T (states_of d)
    → all_positions T.rules ≤ limits.positions → states_of d ≤ limits.states → length rejects ≡ length S.rules → ((i : ℕ) → flag rejects i ≡ has_reject (statements_at (slice_get S.rules i)))
    → AreOverlaps (matches_in d.parts rejects) max_pairs v → AreOverlapsOf limits S v
overlaps_shown limits S T d rejects v is table count subsets positions states len flags overlaps = record {
  within = within_alike limits S T (states_of d) is subsets positions states;
  overlaps = overlaps_shown_by S T d.parts rejects max_pairs v is count table len flags overlaps;
}

-- it has the names and lines of the one
pub labelled_by : (S T : Spec) (v : Words) → T ≡ rejecting S → AreWords (matches_of S) v → AreLabelled (names_of T.conditions) (lines_of T.rules) v
labelled_by S T v is words =
    subst (λ (ns : List (List ℕ)). AreLabelled ns (lines_of T.rules) v) (sym (names_same S T is))
    (subst (λ (ls : List ℕ). AreLabelled (names_of S.conditions) ls v) (sym (lines_same S T is)) (labelled S v words))

-- so its lines are those of the other
pub lines_shown : (S T : Spec) (v : Words) → T ≡ rejecting S → word_lines (names_of T.conditions) (lines_of T.rules) v ≡ word_lines (names_of S.conditions) (lines_of S.rules) v
lines_shown S T v is =
    ap (λ (ns : List (List ℕ)). word_lines ns (lines_of T.rules) v) (names_same S T is) ∙ ap (λ (ls : List ℕ). word_lines (names_of S.conditions) ls v) (lines_same S T is)

-- the same of pairs
pair_labelled : (S : Spec) (v : List Overlap) → AreOverlaps (matches_of S) max_pairs v → ArePairLabels (names_of S.conditions) (lines_of S.rules) v
pair_labelled S v a k x e =
    let is = a.each k x e in
    let m = length-map S.rules (λ (r : Rule). r.line) in
    let order = is.order in
    let known = is.known in
    record {
      first = omega (arith, m, order, known);
      second = omega (arith, m, known);
      homes = is.homes.each ∙ sym (length-map S.conditions (λ c. c.name));
    }

pub pair_labelled_by : (S T : Spec) (v : List Overlap) → T ≡ rejecting S → AreOverlaps (matches_of S) max_pairs v → ArePairLabels (names_of T.conditions) (lines_of T.rules) v
pair_labelled_by S T v is overlaps =
    subst (λ (ns : List (List ℕ)). ArePairLabels ns (lines_of T.rules) v) (sym (names_same S T is))
    (subst (λ (ls : List ℕ). ArePairLabels (names_of S.conditions) ls v) (sym (lines_same S T is)) (pair_labelled S v overlaps))

pub pair_lines_shown : (S T : Spec) (v : List Overlap) → T ≡ rejecting S → overlap_lines (names_of T.conditions) (lines_of T.rules) v ≡ overlap_lines (names_of S.conditions) (lines_of S.rules) v
pair_lines_shown S T v is =
    ap (λ (ns : List (List ℕ)). overlap_lines ns (lines_of T.rules) v) (names_same S T is) ∙ ap (λ (ls : List ℕ). overlap_lines (names_of S.conditions) ls v) (lines_same S T is)
