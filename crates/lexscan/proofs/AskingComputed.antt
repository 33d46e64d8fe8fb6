-- The worked examples of what turns ask for.
use Rattle.std.proofs.Common.{◌≡◌, ℕ, zero, suc, ◌≤◌, Bool, true, false, List, [], ◌∷◌, ◌++◌, length, inl, inr, Some, refl, ap, subst, arith}
use Rattle.std.specs.Prelude.{codes, slice_get, take, drop}
use Rattle.std.proofs.lemmas.List.{length-append}
use Rattle.lex_semantics.proofs.ExampleWords.{is_a, string_in, string_is, word_fits, fits_word}
use Rattle.lex_semantics.specs.Demand.{Asks, AsksAt}
use Rattle.lex_semantics.specs.Text.{at_line_start}
use Rattle.lex_semantics.specs.Examples.{nothing}
use Rattle.lex_semantics.specs.Fits.{Fits}
use Rattle.lex_semantics.specs.Rules.{Live, rules_of}
use Rattle.lex_semantics.specs.Run.{Place, first_place}
use Rattle.lex_semantics.specs.Spec.{Rule}
use Rattle.lexscan.specs.AskingExamples.{two_as, first_asks, second_place, Asking, AskingTogether, Given, Known, Order}

-- the word of the rule, and the words that go on

fits_aa : (line_start : Bool) → Fits two_as 0 line_start (codes "aa") 0 2
fits_aa line_start = word_fits two_as 0 line_start (codes "aa") 0 _ refl refl refl (string_in (97 ∷ 97 ∷ []) (is_a, (is_a, tt))) (omega arith)

no_more_rules : (i : ℕ) (r : Rule) → slice_get {X = Rule} [] i ≡ Some r → ⊥
no_more_rules zero r e = cc
no_more_rules (suc i) r e = cc

only_aa : (c : ℕ) (line_start : Bool) (w : List ℕ) (i k : ℕ) → Fits two_as c line_start w i k → w ≡ codes "aa"
only_aa c line_start w zero k fits = string_is (97 ∷ 97 ∷ []) (is_a, (is_a, tt)) w (fits_word two_as c line_start w 0 _ refl refl k fits).0
only_aa c line_start w (suc i) k fits = absurd (no_more_rules i fits.rule fits.at)

goes_on : Live two_as 0 true (codes "a")
goes_on = (codes "a", (omega arith, tt), omega arith, 0, 2, fits_aa true)

first_byte : List ℕ → ℕ
first_byte (b ∷ w) = b
first_byte w = 0

-- two bytes or more do not go on, and neither does a b
long_is_dead : (line_start : Bool) (w : List ℕ) → 2 ≤ length w → Live two_as 0 line_start w → ⊥
long_is_dead line_start w long (u, text, some, i, k, fits) =
    let n : length (w ++ u) ≡ length (codes "aa") = ap length (only_aa 0 line_start (w ++ u) i k fits) in
    omega (arith, n, long, some, length-append w u)

b_is_dead : (line_start : Bool) → Live two_as 0 line_start (codes "b") → ⊥
unfolding first_byte
b_is_dead line_start (u, text, some, i, k, fits) = let e : 98 ≡ 97 = ap first_byte (only_aa 0 line_start (codes "b" ++ u) i k fits) in omega (arith, e)

-- the answers that the first match asks for

dead_at : (x : List ℕ) (p : Place) (i : ℕ) → p.condition ≡ 0 → (1 ≤ i) → (Live two_as 0 (at_line_start x p.at) (take i (drop p.at x)) → ⊥) → AsksAt (rules_of two_as) x p i → ⊥
dead_at x p i c some dead (inl e) = omega (arith, e, some)
dead_at x p i c some dead (inr live) = dead (subst (λ d. Live two_as d (at_line_start x p.at) (take i (drop p.at x))) c live)

asks_two : (b : ℕ) → first_asks (97 ∷ b ∷ []) 2
asks_two b zero = (λ h. (omega arith, inl refl), λ h. omega arith)
asks_two b (suc zero) = (λ h. (omega arith, inr goes_on), λ h. omega arith)
asks_two b (suc (suc zero)) = (λ h. absurd (omega (arith, h)), λ h. absurd (dead_at (97 ∷ b ∷ []) first_place 2 refl (omega arith) (long_is_dead true (97 ∷ b ∷ []) (omega arith)) h.1))
asks_two b (suc (suc (suc i))) = (λ h. absurd (omega (arith, h)), λ h. absurd (omega (arith, h.0)))

asked_of_aab : first_asks (codes "aab") 2
asked_of_aab zero = (λ h. (omega arith, inl refl), λ h. omega arith)
asked_of_aab (suc zero) = (λ h. (omega arith, inr goes_on), λ h. omega arith)
asked_of_aab (suc (suc zero)) = (λ h. absurd (omega (arith, h)), λ h. absurd (dead_at (codes "aab") first_place 2 refl (omega arith) (long_is_dead true (codes "aa") (omega arith)) h.1))
asked_of_aab (suc (suc (suc zero))) = (λ h. absurd (omega (arith, h)), λ h. absurd (dead_at (codes "aab") first_place 3 refl (omega arith) (long_is_dead true (codes "aab") (omega arith)) h.1))
asked_of_aab (suc (suc (suc (suc i)))) = (λ h. absurd (omega (arith, h)), λ h. absurd (omega (arith, h.0)))

asked_of_ba : first_asks (codes "ba") 1
asked_of_ba zero = (λ h. (omega arith, inl refl), λ h. omega arith)
asked_of_ba (suc zero) = (λ h. absurd (omega (arith, h)), λ h. absurd (dead_at (codes "ba") first_place 1 refl (omega arith) (b_is_dead true) h.1))
asked_of_ba (suc (suc zero)) = (λ h. absurd (omega (arith, h)), λ h. absurd (dead_at (codes "ba") first_place 2 refl (omega arith) (long_is_dead true (codes "ba") (omega arith)) h.1))
asked_of_ba (suc (suc (suc i))) = (λ h. absurd (omega (arith, h)), λ h. absurd (omega (arith, h.0)))

asked_of_a : first_asks (codes "a") 2
asked_of_a zero = (λ h. (omega arith, inl refl), λ h. omega arith)
asked_of_a (suc zero) = (λ h. (omega arith, inr goes_on), λ h. omega arith)
asked_of_a (suc (suc i)) = (λ h. absurd (omega (arith, h)), λ h. absurd (omega (arith, h.0)))

asked_of_nothing : first_asks [] 1
asked_of_nothing zero = (λ h. (omega arith, inl refl), λ h. omega arith)
asked_of_nothing (suc i) = (λ h. absurd (omega (arith, h)), λ h. absurd (omega (arith, h.0)))

third_of : (b c : ℕ) (w : List ℕ) → first_asks (b ∷ c ∷ w) 3 → ⊥
third_of b c w h = dead_at (b ∷ c ∷ w) first_place 2 refl (omega arith) (long_is_dead true (b ∷ c ∷ []) (omega arith)) ((h 2).0 (omega arith)).1

none_lives : (line_start : Bool) (w : List ℕ) → Live nothing 0 line_start w → ⊥
none_lives line_start w (u, text, some, i, k, fits) = no_more_rules i fits.rule fits.at

asked_of_none : Asks (rules_of nothing) (codes "a") first_place 1
asked_of_none zero = (λ h. (omega arith, inl refl), λ h. omega arith)
asked_of_none (suc zero) = (λ h. absurd (omega (arith, h)), λ h. absurd (dead h.1))
  where
    dead : AsksAt (rules_of nothing) (codes "a") first_place 1 → ⊥
    dead (inl e) = omega (arith, e)
    dead (inr live) = none_lives true (codes "a") live
asked_of_none (suc (suc i)) = (λ h. absurd (omega (arith, h)), λ h. absurd (omega (arith, h.0)))

pub asking : Asking
asking = record {
  whole = asked_of_aab;
  no_more = third_of 97 97 (codes "b");
  second_byte = asks_two 98;
  first_byte = asked_of_ba;
  longer_match = asked_of_a;
  no_input = asked_of_nothing;
  all_of_it = asks_two 97;
  other_byte = third_of 97 98 [];
  without_rules = asked_of_none;
}

second_of_aab : Asks (rules_of two_as) (codes "aab") second_place 1
second_of_aab zero = (λ h. (omega arith, inl refl), λ h. omega arith)
second_of_aab (suc zero) = (λ h. absurd (omega (arith, h)), λ h. absurd (dead_at (codes "aab") second_place 1 refl (omega arith) (b_is_dead false) h.1))
second_of_aab (suc (suc i)) = (λ h. absurd (omega (arith, h)), λ h. absurd (omega (arith, h.0)))

pub together : AskingTogether
together = record {
  none = (refl, refl);
  some = λ h. omega (arith, h.1);
  further = (1, second_of_aab, refl);
  no_further = (2, asked_of_aab, refl);
  not_again = λ h. omega (arith, h.2);
  ended = refl;
  not_ended = λ h. omega (arith, h);
}

pub given : Given
given = record {
  begins = ((omega arith, (omega arith, tt)), (codes "b", refl));
  ends = ((omega arith, tt), refl);
  more = λ h. (let n : 2 ≡ 1 = ap length h.1 in omega (arith, n));
  less = λ h. (let n : 1 ≡ suc (suc (length h.1.0)) = ap length h.1.1 in omega (arith, n));
  no_byte = λ h. omega (arith, h.0.0);
}

pub known : Known
known = record {
  first = λ x consistent. (refl, refl);
  at_end = λ h. (let n : 1 ≡ 0 = (h [] (tt, refl)).1 in omega (arith, n));
  one_byte = λ h. (let n : 1 ≡ 0 = (h (codes "a") ((omega arith, tt), ([], refl))).1 in omega (arith, n));
  answered = refl;
  end_answered = refl;
}

pub order : Order
order = record {
  longer = inl (omega arith);
  shorter = λ h. elim h [ inl less ↦ omega (arith, less) | inr same ↦ omega (arith, same.0) ];
  by_context = inl (omega arith);
  shorter_by_context = λ h. elim h [ inl less ↦ omega (arith, less) | inr same ↦ omega (arith, same.0) ];
  earlier_rule = inr (refl, omega arith);
  later_rule = λ h. elim h [ inl less ↦ omega (arith, less) | inr same ↦ omega (arith, same.1) ];
}
