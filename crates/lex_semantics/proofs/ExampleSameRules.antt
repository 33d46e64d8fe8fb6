-- The worked examples of specifications with the same rules.
use Rattle.std.proofs.Common.{◌≡◌, ℕ, zero, suc, Bool, true, List, [], ◌∷◌, ◌++◌, length, Some, refl, sym, ◌∙◌, ap, subst, arith}
use Rattle.std.specs.Prelude.{codes, slice_get}
use Rattle.std.proofs.lemmas.List.{append-nil}
use Rattle.lex_semantics.proofs.WordReadings.{Joined, to_joined, of_joined}
use Rattle.lex_semantics.specs.Tree.{Tree, In}
use Rattle.lex_semantics.specs.Spec.{Rule, Statement, Echo, Whole, Head}
use Rattle.lex_semantics.specs.Fits.{Fits}
use Rattle.lex_semantics.specs.SameRules.{SameRules}
use Rattle.lex_semantics.specs.Examples as E
use Rattle.lex_semantics.specs.Examples.{letter, string, rule}
use Rattle.lex_semantics.proofs.ExampleWords.{is_a, letter_in, string_is, word_fits, fits_word, fits_length}

no_rules : (i : ℕ) (r : Rule) → slice_get {X = Rule} [] i ≡ Some r → ⊥
no_rules zero r e = cc
no_rules (suc i) r e = cc

-- `a+` and `aa*` have the same words

to_one : (w : List ℕ) → In E.many w → In E.one_and_any w
to_one w (zero, some, bound, joined) = absurd (omega (arith, some))
to_one w (suc k, some, bound, (u, v, e, here, rest)) = (u, v, e, here, (v, [], sym (append-nil v), (k, of_joined (In (letter 97)) 0 k v (to_joined (In (letter 97)) 1 k v rest)), refl))

to_many : (w : List ℕ) → In E.one_and_any w → In E.many w
to_many w (u, v, e, here, (x, y, e', (k, joined), none)) =
    let same : v ≡ x = e' ∙ ap (λ z. x ++ z) none ∙ append-nil x in
    (suc k, omega arith, tt, (u, v, e, here, of_joined (In (letter 97)) 1 k v (subst (Joined (In (letter 97)) k) (sym same) (to_joined (In (letter 97)) 0 k x joined))))

-- a rule whose pattern has the words of another
module _ (t u : Tree) (on : (w : List ℕ) → In t w → In u w) where
  fits_on : (c : ℕ) (line_start : Bool) (w : List ℕ) (i k : ℕ) → Fits (E.echoing t) c line_start w i k → Fits (E.echoing u) c line_start w i k
  fits_on c line_start w zero k h =
      let fit = fits_word (E.echoing t) c line_start w 0 (rule t (Echo ∷ [])) refl refl k h in
      let size : k ≡ length w = fits_length (E.echoing t) c line_start w 0 (rule t (Echo ∷ [])) refl refl k h in
      subst (Fits (E.echoing u) c line_start w 0) (sym size) (word_fits (E.echoing u) c line_start w 0 (rule u (Echo ∷ [])) refl refl fit.1 (on w fit.0) fit.2)
  fits_on c line_start w (suc i) k h = absurd (no_rules i h.rule h.at)

same_action : (t u : Tree) (i : ℕ) (r q : Rule) → slice_get (rule t (Echo ∷ []) ∷ []) i ≡ Some r → slice_get (rule u (Echo ∷ []) ∷ []) i ≡ Some q → (r.cut ≡ q.cut) × (r.statements ≡ q.statements)
same_action t u zero r q at at' =
    let one : rule t (Echo ∷ []) ≡ r = cc in
    let two : rule u (Echo ∷ []) ≡ q = cc in
    (ap (λ (z : Rule). z.cut) (sym one) ∙ ap (λ (z : Rule). z.cut) two, ap (λ (z : Rule). z.statements) (sym one) ∙ ap (λ (z : Rule). z.statements) two)
same_action t u (suc i) r q at at' = absurd (no_rules i r at)

pub written_in_two_ways : SameRules (E.echoing E.many) (E.echoing E.one_and_any)
written_in_two_ways = record {
  conditions = refl;
  rules = refl;
  ending = λ c. refl;
  actions = λ i r q at at'. same_action E.many E.one_and_any i r q at at';
  fits = λ c line_start w i k lt text. (λ h. fits_on E.many E.one_and_any to_one c line_start w i k h, λ h. fits_on E.one_and_any E.many to_many c line_start w i k h);
}

a : List ℕ
a = 97 ∷ []

a_fits : (ss : List Statement) → Fits (E.of_rules (rule E.many ss ∷ [])) 0 true a 0 1
unfolding a
a_fits ss = word_fits (E.of_rules (rule E.many ss ∷ [])) 0 true a 0 (rule E.many ss) refl refl refl (1, omega arith, tt, (97 ∷ [], [], refl, letter_in 97 is_a, refl)) (omega arith)

pub other_words : SameRules (E.echoing E.many) (E.echoing (string (codes "aa"))) → ⊥
unfolding a
other_words h =
    let there : Fits (E.echoing (string (codes "aa"))) 0 true a 0 1 = (h.fits 0 true a 0 1 (omega arith) (omega arith, tt)).0 (a_fits (Echo ∷ [])) in
    let word : In (string (codes "aa")) a = (fits_word (E.echoing (string (codes "aa"))) 0 true a 0 (rule (string (codes "aa")) (Echo ∷ [])) refl refl 1 there).0 in
    let n : length a ≡ 2 = ap length (string_is (97 ∷ 97 ∷ []) (is_a, (is_a, tt)) a word) in
    omega (arith, n)

pub other_statements : SameRules (E.echoing E.many) (E.of_rules (rule E.many [] ∷ [])) → ⊥
other_statements h = let n : 1 ≡ 0 = ap length (h.actions 0 (rule E.many (Echo ∷ [])) (rule E.many []) refl refl).1 in omega (arith, n)

pub other_count : SameRules (E.echoing E.many) E.nothing → ⊥
other_count h = omega (arith, h.rules)

pub other_end : SameRules (E.ends_with_bytes 1) (E.ends_with_bytes 2) → ⊥
other_end h = let n : 1 ≡ 2 = ap (λ e. length e.print) (h.ending 0) in omega (arith, n)

pub other_text : SameRules (E.cut_by (Head 2)) (E.of_rules (rule (string (codes "abcd")) [] ∷ [])) → ⊥
other_text h = no ((h.actions 0 _ _ refl refl).0)
  where
    no : Head 2 ≡ Whole → ⊥
    no e = cc
