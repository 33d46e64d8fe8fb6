-- The worked examples of reports.
use Rattle.std.proofs.Common.{◌≡◌, ℕ, zero, suc, ◌<◌, Bool, true, false, List, [], ◌∷◌, ◌++◌, length, Some, None, refl, sym, ap, subst, arith}
use Rattle.std.specs.Prelude.{codes, slice_get}
use Rattle.lex_semantics.specs.Tree.{Tree, Repeat, Empty, In}
use Rattle.lex_semantics.specs.Spec.{Rule, Reject}
use Rattle.lex_semantics.specs.Rules.{Live}
use Rattle.lex_semantics.specs.Fits.{Fits}
use Rattle.lex_semantics.specs.Reports.{HasFit, Useless, BackWord}
use Rattle.lex_semantics.specs.Examples as E
use Rattle.lex_semantics.specs.Examples.{letter, string, rule}
use Rattle.lex_semantics.proofs.ExampleWords.{is_a, is_b, is_c, letter_in, string_is, string_in, word_fits, fits_word}

a : List ℕ
a = 97 ∷ []

aa : List ℕ
aa = 97 ∷ 97 ∷ []

-- `a+` has them

many : Tree
many = Repeat (letter 97) 1 None

a_in : In many a
unfolding a many
a_in = (1, omega arith, tt, (97 ∷ [], [], refl, letter_in 97 is_a, refl))

aa_in : In many aa
unfolding aa many
aa_in = (2, omega arith, tt, (97 ∷ [], 97 ∷ [], refl, letter_in 97 is_a, (97 ∷ [], [], refl, letter_in 97 is_a, refl)))

two_in : In (string (codes "aa")) aa
unfolding aa
two_in = string_in (97 ∷ 97 ∷ []) (is_a, (is_a, tt))

many_fits : (rejecting line_start : Bool) → Fits (E.many_or_two rejecting) 0 line_start a 0 1
unfolding a many
many_fits true line_start = word_fits (E.many_or_two true) 0 line_start a 0 (rule many (Reject ∷ [])) refl refl refl a_in (omega arith)
many_fits false line_start = word_fits (E.many_or_two false) 0 line_start a 0 (rule many []) refl refl refl a_in (omega arith)

pub later_rule : Useless (E.many_or_two false) 1
unfolding aa many
later_rule = (omega arith, λ c line_start w lt text h. (let before = earlier c line_start w h in (refl, before.0, before.1, before.2)))
  where
    earlier : (c : ℕ) (line_start : Bool) (w : List ℕ) → HasFit (E.many_or_two false) c line_start w 1 → (j : ℕ) × (j < 1) × HasFit (E.many_or_two false) c line_start w j
    earlier c line_start w (k, fits) =
        let fit = fits_word (E.many_or_two false) c line_start w 1 (rule (string (codes "aa")) []) refl refl k fits in
        let is : w ≡ aa = string_is (97 ∷ 97 ∷ []) (is_a, (is_a, tt)) w fit.0 in
        (0, omega arith, (length w, word_fits (E.many_or_two false) c line_start w 0 (rule many []) refl refl fit.1 (subst (In many) (sym is) aa_in) fit.2))

pub first_rule : Useless (E.many_or_two false) 0 → ⊥
unfolding a
first_rule h = let earlier = h.1 0 false a (omega arith) (omega arith, tt) (1, many_fits false false) in omega (arith, earlier.2)

pub no_rule : Useless (E.many_or_two false) 2 → ⊥
no_rule h = omega (arith, h.0)

pub later_with_reject : Useless (E.many_or_two true) 1 → ⊥
unfolding aa
later_with_reject h =
    let fits = h.1 0 false aa (omega arith) (omega arith, (omega arith, tt))
    (2, word_fits (E.many_or_two true) 0 false aa 1 (rule (string (codes "aa")) []) refl refl refl two_in (omega arith)) in
    let none = fits.0 in cc

pub never_fits : Useless E.nothing_or_a 0
never_fits = (omega arith, λ c line_start w lt text h. absurd (empty c line_start w h))
  where
    empty : (c : ℕ) (line_start : Bool) (w : List ℕ) → HasFit E.nothing_or_a c line_start w 0 → ⊥
    empty c line_start w (k, fits) =
        let fit = fits_word E.nothing_or_a c line_start w 0 (rule Empty []) refl refl k fits in
        let none : length w ≡ 0 = ap length fit.0 in
        omega (arith, fit.2)

-- `abc`

abc_fits : (line_start : Bool) → Fits E.abc 0 line_start (codes "abc") 0 3
abc_fits line_start = word_fits E.abc 0 line_start (codes "abc") 0 _ refl refl refl (string_in (97 ∷ 98 ∷ 99 ∷ []) (is_a, (is_b, (is_c, tt)))) (omega arith)

no_more_rules : (i : ℕ) (r : Rule) → slice_get {X = Rule} [] i ≡ Some r → ⊥
no_more_rules zero r e = cc
no_more_rules (suc i) r e = cc

only_abc : (c : ℕ) (line_start : Bool) (w : List ℕ) (i k : ℕ) → Fits E.abc c line_start w i k → w ≡ codes "abc"
only_abc c line_start w zero k fits = string_is (97 ∷ 98 ∷ 99 ∷ []) (is_a, (is_b, (is_c, tt))) w (fits_word E.abc c line_start w 0 _ refl refl k fits).0
only_abc c line_start w (suc i) k fits = absurd (no_more_rules i fits.rule fits.at)

pub longer_fits : (line_start : Bool) → BackWord E.abc 0 line_start (codes "ab")
longer_fits line_start = record {
  condition = omega arith;
  text = (omega arith, (omega arith, tt));
  two_or_more = omega arith;
  goes_on = (codes "c", (omega arith, tt), omega arith, 0, 3, abc_fits line_start);
  fits_none = λ i (k, fits). none (only_abc 0 line_start (codes "ab") i k fits);
}
  where
    none : codes "ab" ≡ codes "abc" → ⊥
    none e = let n : length (codes "ab") ≡ length (codes "abc") = ap length e in omega arith

pub one_byte : (line_start : Bool) → BackWord E.abc 0 line_start (codes "a") → ⊥
one_byte line_start h = omega (arith, h.two_or_more)

pub whole_word : (line_start : Bool) → BackWord E.abc 0 line_start (codes "abc") → ⊥
whole_word line_start h = h.fits_none 0 (3, abc_fits line_start)

second : List ℕ → ℕ
second (b ∷ c ∷ w) = c
second w = 0

pub dead_word : (line_start : Bool) → BackWord E.abc 0 line_start (codes "ad") → ⊥
unfolding second
dead_word line_start h = from h.goes_on
  where
    from : Live E.abc 0 line_start (codes "ad") → ⊥
    from (u, text, some, i, k, fits) = let e : 100 ≡ 98 = ap second (only_abc 0 line_start (codes "ad" ++ u) i k fits) in omega (arith, e)

pub fits_itself : (line_start : Bool) → BackWord E.all_fronts 0 line_start (codes "ab") → ⊥
fits_itself line_start h = h.fits_none 1 (2, word_fits E.all_fronts 0 line_start (codes "ab") 1 _ refl refl refl (string_in (97 ∷ 98 ∷ []) (is_a, (is_b, tt))) (omega arith))

pub no_condition : (line_start : Bool) → BackWord E.abc 1 line_start (codes "ab") → ⊥
no_condition line_start h = omega (arith, h.condition)
