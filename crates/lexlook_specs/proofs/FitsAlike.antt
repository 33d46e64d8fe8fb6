-- A specification in which each action is REJECT has the same texts that fit its rules, and as many states before minimising.
use Rattle.std.proofs.Common.{◌≡◌, ◌↔◌, ◌<◌, ℕ, zero, suc, ◌+◌, Bool, true, List, [], ◌∷◌, ◌++◌, length, map, Option, Some, refl, sym, ap, subst, ◌∙◌, arith}
use Rattle.std.specs.Prelude.{slice_get, take}
use Rattle.std.specs.Prelude.{MatchOption}
use Rattle.std.specs.Prelude.{drop}
use Rattle.lex_semantics.specs.Spec.{Spec, Rule, Condition, has_reject, statements_at}
use Rattle.lex_semantics.specs.Text.{Among, flag}
use Rattle.lex_semantics.specs.Active.{active}
use Rattle.lex_semantics.specs.Reports.{HasFit}
use Rattle.lex_semantics.specs.TableFor.{Accepted, TableFor}
use Rattle.lex_semantics.specs.Positions.{MarkedByte, Readings, Matches}
use Rattle.lex_semantics.specs.Subsets.{all_positions, positions_of_rule, AreLasts, AreStarts, IsActive, IsLast, ListsSet, ReadsActive, ReadsRule, HasSubsets}
use Rattle.lexauto_dfa.proofs.Machinery.{walk_after}
use Rattle.lexauto_dfa.specs.Automata.{machine_in}
use Rattle.lexauto_dfa.specs.Parts.{conditions, start, accepts}
use Rattle.lexauto_dfa.specs.declared.dfa.Parts.{Parts}
use Rattle.lexlook_specs.proofs.MatchesAlike.{AreAlike, copied_alike, overlaps_alike, words_alike}
use Rattle.lexlook_specs.specs.Copied.{AreCopied}
use Rattle.lexlook_specs.specs.Matches.{matches_in, matches_of}
use Rattle.lexlook_specs.specs.Overlaps.{AreOverlaps}
use Rattle.lexlook_specs.specs.Words.{AreWords}
use Rattle.lexlook_specs.specs.declared.words.overlapping.Overlap.{Overlap}
use Rattle.lexlook_specs.specs.declared.words.finding.Words.{Words}
use Rattle.lexlook_specs.specs.Rejecting.{rejecting, rejecting_rule}

pub got_map : (rs : List Rule) (i : ℕ) (r : Rule) → slice_get rs i ≡ Some r → slice_get (map rejecting_rule rs) i ≡ Some (rejecting_rule r)
got_map [] i r e = absurd cc
got_map (q ∷ rs) zero r e = (let same : q ≡ r = cc in ap (λ (x : Rule). Some (rejecting_rule x)) same)
got_map (q ∷ rs) (suc i) r e = got_map rs i r e

pub got_back : (rs : List Rule) (i : ℕ) (r : Rule) → slice_get (map rejecting_rule rs) i ≡ Some r → (q : Rule) × (slice_get rs i ≡ Some q) × (r ≡ rejecting_rule q)
got_back [] i r e = absurd cc
got_back (q ∷ rs) zero r e = (q, refl, (let same : rejecting_rule q ≡ r = cc in sym same))
got_back (q ∷ rs) (suc i) r e = got_back rs i r e

-- the same texts fit

fits_to : (S : Spec) (c : ℕ) (line : Bool) (w : List ℕ) (i : ℕ) → HasFit (rejecting S) c line w i → HasFit S c line w i
fits_to S c line w i (k, f) =
    let g = got_back S.rules i f.rule f.at in (
      k,
      record {
        rule = g.0;
        at = g.1;
        is_active = subst (λ (q : Rule). active (rejecting S) c line q ≡ true) g.2 f.is_active;
        not_empty = f.not_empty;
        inside = f.inside;
        in_head = subst (λ (q : Rule). Matches q.head (take k w)) g.2 f.in_head;
        in_trail = subst (λ (q : Rule). MatchOption q.trail (k ≡ length w) (λ t. Matches t (drop k w))) g.2 f.in_trail;
      },
    )

fits_from : (S : Spec) (c : ℕ) (line : Bool) (w : List ℕ) (i : ℕ) → HasFit S c line w i → HasFit (rejecting S) c line w i
fits_from S c line w i (k, f) = (
  k,
  record {
    rule = rejecting_rule f.rule;
    at = got_map S.rules i f.rule f.at;
    is_active = f.is_active;
    not_empty = f.not_empty;
    inside = f.inside;
    in_head = f.in_head;
    in_trail = f.in_trail;
  },
)

no_fit : (ks : List Condition) (c : ℕ) (line : Bool) (w : List ℕ) (i : ℕ) → HasFit (record { conditions = ks; rules = [] }) c line w i → ⊥
no_fit ks c line w i (k, f) = (let e = f.at in cc)

-- all rules that fit are accepted
accepted_is : (ks : List Condition) (rs : List Rule) (c : ℕ) (line : Bool) (w : List ℕ) (i : ℕ)
    → Accepted (record { conditions = ks; rules = map rejecting_rule rs }) c line w i
    ↔ HasFit (record { conditions = ks; rules = map rejecting_rule rs }) c line w i
accepted_is ks [] c line w i = (λ h. h.0, λ f. absurd (no_fit ks c line w i f))
accepted_is ks (r ∷ rs) c line w i = (λ h. h.0, λ f. (f, λ e. cc))

pub fits_accepted : (S : Spec) (c : ℕ) (line : Bool) (w : List ℕ) (i : ℕ) → Accepted (rejecting S) c line w i ↔ HasFit S c line w i
fits_accepted S c line w i =
    let e = accepted_is S.conditions S.rules c line w i in
    (λ h. fits_to S c line w i (e.0 h), λ f. e.1 (fits_from S c line w i f))

-- as many positions

pub positions_same : (rs : List Rule) → all_positions (map rejecting_rule rs) ≡ all_positions rs
positions_same [] = refl
positions_same (r ∷ rs) = ap (λ (n : ℕ). positions_of_rule r + n) (positions_same rs)

before_same : (rs : List Rule) (i : ℕ) → all_positions (take i (map rejecting_rule rs)) ≡ all_positions (take i rs)
before_same [] zero = refl
before_same [] (suc i) = refl
before_same (r ∷ rs) zero = refl
before_same (r ∷ rs) (suc i) = ap (λ (n : ℕ). positions_of_rule r + n) (before_same rs i)

active_same : (S : Spec) (c : ℕ) (line : Bool) (i : ℕ) → IsActive (rejecting S) c line i ↔ IsActive S c line i
active_same S c line i = (
  λ h. (let g = got_back S.rules i h.0 h.1 in (g.0, g.1, subst (λ (q : Rule). active (rejecting S) c line q ≡ true) g.2 h.2)),
  λ h. (rejecting_rule h.0, got_map S.rules i h.0 h.1, h.2),
)

reads_same : (S : Spec) (c : ℕ) (line : Bool) (rs : List MarkedByte) → ReadsActive (rejecting S) c line rs ↔ ReadsActive S c line rs
reads_same S c line rs = (
  λ h.
      let g = got_back S.rules h.0 h.1 h.2 in
      let read = subst (λ (q : Rule). ReadsRule q (all_positions (take h.0 (map rejecting_rule S.rules))) rs) g.2 h.4 in
      (h.0, g.0, g.1, subst (λ (q : Rule). active (rejecting S) c line q ≡ true) g.2 h.3, subst (λ (b : ℕ). ReadsRule g.0 b rs) (before_same S.rules h.0) read),
  λ h. (h.0, rejecting_rule h.1, got_map S.rules h.0 h.1 h.2, h.3, subst (λ (b : ℕ). ReadsRule h.1 b rs) (sym (before_same S.rules h.0)) h.4),
)

lists_alike : (l : List ℕ) (P Q : ℕ → Type 0) → ((i : ℕ) → P i ↔ Q i) → ListsSet l P → ListsSet l Q
lists_alike l P Q same h = (h.0, λ i. (λ a. (same i).0 ((h.1 i).0 a), λ q. (h.1 i).1 ((same i).1 q)))

last_alike : (R Q : Readings) → ((rs : List MarkedByte) → R rs ↔ Q rs) → (w : List ℕ) (p : ℕ) → IsLast R w p ↔ IsLast Q w p
last_alike R Q same w p = (
  λ h. (h.0, h.1, h.2, h.3, (same (h.0 ++ (h.2, p) ∷ h.1)).0 h.4),
  λ h. (h.0, h.1, h.2, h.3, (same (h.0 ++ (h.2, p) ∷ h.1)).1 h.4),
)

swap : {P Q : Type 0} → P ↔ Q → Q ↔ P
swap e = (e.1, e.0)

-- sets of active rules and of last positions that are the same
module _ (S T : Spec) (count : length S.conditions ≡ length T.conditions)
    (active_is : (c : ℕ) (line : Bool) (i : ℕ) → IsActive S c line i ↔ IsActive T c line i)
    (reads_are : (c : ℕ) (line : Bool) (rs : List MarkedByte) → ReadsActive S c line rs ↔ ReadsActive T c line rs) where
  starts_alike : (ls : List (List ℕ)) → AreStarts S ls → AreStarts T ls
  starts_alike ls a = record {
    distinct = a.distinct;
    listed = λ l. (
      λ m. (let r = (a.listed l).0 m in let q = r.1 in let low = q.2 in (r.0, (q.0, q.1, (omega (arith, low, count)), lists_alike l (IsActive S q.0 q.1) (IsActive T q.0 q.1) (active_is q.0 q.1) q.3))),
      λ (some, (c, line, low, set)). (a.listed l).1 (some, (c, line, (omega (arith, low, count)), lists_alike l (IsActive T c line) (IsActive S c line) (λ i. swap (active_is c line i)) set)),
    );
  }

  lasts_are : (c : ℕ) (line : Bool) (w : List ℕ) (p : ℕ) → IsLast (ReadsActive S c line) w p ↔ IsLast (ReadsActive T c line) w p
  lasts_are c line w p = last_alike (ReadsActive S c line) (ReadsActive T c line) (reads_are c line) w p

  lasts_alike : (ls : List (List ℕ)) → AreLasts S ls → AreLasts T ls
  lasts_alike ls a = record {
    distinct = a.distinct;
    listed = λ l. (
      λ m. (let r = (a.listed l).0 m in let q = r.1 in let low = q.3 in (r.0, (q.0, q.1, q.2, (omega (arith, low, count)), q.4, q.5, lists_alike l (IsLast (ReadsActive S q.0 q.1) q.2) (IsLast (ReadsActive T q.0 q.1) q.2) (lasts_are q.0 q.1 q.2) q.6))),
      λ (some, (c, line, w, low, text, more, set)).
          (a.listed l).1 (some, (c, line, w, (omega (arith, low, count)), text, more, lists_alike l (IsLast (ReadsActive T c line) w) (IsLast (ReadsActive S c line) w) (λ p. swap (lasts_are c line w p)) set)),
    );
  }

  pub subsets_alike : (n : ℕ) → HasSubsets S n → HasSubsets T n
  subsets_alike n a = record {
    starts = a.starts;
    lasts = a.lasts;
    are_starts = starts_alike a.starts a.are_starts;
    are_lasts = lasts_alike a.lasts a.are_lasts;
    total = a.total;
  }

pub subsets_to : (S : Spec) (n : ℕ) → HasSubsets (rejecting S) n → HasSubsets S n
subsets_to S n = subsets_alike (rejecting S) S refl (active_same S) (reads_same S) n

pub subsets_from : (S : Spec) (n : ℕ) → HasSubsets S n → HasSubsets (rejecting S) n
subsets_from S n = subsets_alike S (rejecting S) refl (λ c line i. swap (active_same S c line i)) (λ c line rs. swap (reads_same S c line rs)) n

-- the automaton of the specification in which each action is REJECT tells which texts fit
pub automaton_alike : (S : Spec) (p : Parts) (rejects : List Bool) → conditions p ≡ length S.conditions → TableFor (machine_in p (rejecting S)) (rejecting S)
    → length rejects ≡ length S.rules → ((i : ℕ) → flag rejects i ≡ has_reject (statements_at (slice_get S.rules i)))
    → AreAlike (matches_in p rejects) (matches_of S)
automaton_alike S p rejects count table len flags = record {
  conditions = count;
  count = len;
  fits = λ c line w i h.
      let low = h.condition in
      let known : c < length S.conditions = omega (arith, low, count) in
      let e = table.accepts c line w i known h.text in
      let walked = walk_after p (rejecting S) (start p c line) w in
      let back = fits_accepted S c line w i in
      (λ a. back.0 (e.0 (subst (λ (s : ℕ). Among (accepts p s) i) (sym walked) a)), λ f. subst (λ (s : ℕ). Among (accepts p s) i) walked (e.1 (back.1 f)));
  gives_up = flags;
}

-- what is copied by it is copied by the specification
pub copied_shown : (S T : Spec) (p : Parts) (rejects : List Bool) (bytes : List (Option ℕ)) → T ≡ rejecting S → conditions p ≡ length T.conditions → TableFor (machine_in p T) T
    → length rejects ≡ length S.rules → ((i : ℕ) → flag rejects i ≡ has_reject (statements_at (slice_get S.rules i))) → AreCopied (matches_in p rejects) bytes → AreCopied (matches_of S) bytes
copied_shown S T p rejects bytes is count table len flags copied =
    copied_alike (matches_in p rejects) (matches_of S)
    (automaton_alike S p rejects (count ∙ ap (λ (U : Spec). length U.conditions) is) (subst (λ (U : Spec). TableFor (machine_in p U) U) is table) len flags) bytes copied

-- the same of the texts that its rules take
pub words_shown_by : (S T : Spec) (p : Parts) (rejects : List Bool) (v : Words) → T ≡ rejecting S → conditions p ≡ length T.conditions → TableFor (machine_in p T) T
    → length rejects ≡ length S.rules → ((i : ℕ) → flag rejects i ≡ has_reject (statements_at (slice_get S.rules i))) → AreWords (matches_in p rejects) v → AreWords (matches_of S) v
words_shown_by S T p rejects v is count table len flags words =
    words_alike (matches_in p rejects) (matches_of S)
    (automaton_alike S p rejects (count ∙ ap (λ (U : Spec). length U.conditions) is) (subst (λ (U : Spec). TableFor (machine_in p U) U) is table) len flags) v words

-- and of the pairs that share a text
pub overlaps_shown_by : (S T : Spec) (p : Parts) (rejects : List Bool) (most : ℕ) (v : List Overlap) → T ≡ rejecting S → conditions p ≡ length T.conditions → TableFor (machine_in p T) T
    → length rejects ≡ length S.rules → ((i : ℕ) → flag rejects i ≡ has_reject (statements_at (slice_get S.rules i))) → AreOverlaps (matches_in p rejects) most v → AreOverlaps (matches_of S) most v
overlaps_shown_by S T p rejects most v is count table len flags overlaps =
    overlaps_alike (matches_in p rejects) (matches_of S)
    (automaton_alike S p rejects (count ∙ ap (λ (U : Spec). length U.conditions) is) (subst (λ (U : Spec). TableFor (machine_in p U) U) is table) len flags) most v overlaps

rules_again : (rs : List Rule) → map rejecting_rule (map rejecting_rule rs) ≡ map rejecting_rule rs
rules_again [] = refl
rules_again (r ∷ rs) = ap (λ (qs : List Rule). rejecting_rule r ∷ qs) (rules_again rs)

-- it is its own
pub rejecting_again : (S : Spec) → rejecting (rejecting S) ≡ rejecting S
rejecting_again S = ap (λ (rs : List Rule). record { conditions = S.conditions; rules = rs }) (rules_again S.rules)
