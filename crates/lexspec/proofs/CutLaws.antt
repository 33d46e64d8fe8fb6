-- Sides of fixed length.
use Rattle.std.proofs.Common.{◌≡◌, ℕ, ◌≤◌, ◌==◌, Bool, true, false, length, Option, Some, None, refl, sym, ap, subst, ◌∙◌, arith, rules}
use Rattle.std.specs.Prelude.{IfSome, IfNone, nat_le, not}
use Rattle.std.proofs.lemmas.Bool.{and_parts, and_from, eq-eqb, eqb-true, leb-true}
use Rattle.lex_semantics.specs.Shapes.{Language, LongestIs, HasLengths, IsSoundTree}
use Rattle.lex_semantics.specs.Tree.{Tree, In}
use Rattle.lex_semantics.specs.Spec.{Cut, Whole, Head, Trail}
use Rattle.lex_semantics.proofs.Cuts.{fixed_lengths, lengths_fixed}
use Rattle.lexre.specs.Lengths.{least, greatest}
use Rattle.lexre.proofs.LengthLaws.{has_lengths}
use Rattle.lex_semantics.specs.Sound.{HasFixed, IsCutOf}
use Rattle.lexspec.specs.Tests.{is_number}
use Rattle.lexspec.specs.Tests.{has_length, has_fixed, is_fixed, is_whole, cut_fits}
use Rattle.lex_semantics.specs.Limits.{max_fixed_length}

pub one_least : (L : Language) (m n : ℕ) (g h : Option ℕ) → HasLengths L m g → HasLengths L n h → m ≡ n
one_least L m n g h a b =
    let low : n ≤ length a.shortest.0 = b.none_shorter a.shortest.0 a.shortest.1 in
    let high : m ≤ length b.shortest.0 = a.none_shorter b.shortest.0 b.shortest.1 in
    omega (arith, a.shortest.2, b.shortest.2)

pub one_longest : (L : Language) (g h : Option ℕ) → LongestIs L g → LongestIs L h → g ≡ h
one_longest L None None a b = refl
one_longest L None (Some n) a b = let more = a n in absurd (let less : length more.0 ≤ n = b.1 more.0 more.1 in omega (arith, more.2))
one_longest L (Some m) None a b = let more = b m in absurd (let less : length more.0 ≤ m = a.1 more.0 more.1 in omega (arith, more.2))
one_longest L (Some m) (Some n) a b =
    let low : length a.0.0 ≤ n = b.1 a.0.0 a.0.1 in
    let high : length b.0.0 ≤ m = a.1 b.0.0 b.0.1 in
    let same : m ≡ n = omega (arith, a.0.2, b.0.2) in
    ap Some same

-- a fixed length passes the test
fixed_is_tested : (t : Tree) (n : ℕ) → IsSoundTree t → HasFixed t n → has_fixed t n ≡ true
fixed_is_tested t n sound h =
    let fixed = fixed_lengths t n h in
    let all = has_lengths t sound in
    let low : least t ≡ n = one_least (In t) (least t) n (greatest t) (Some n) all fixed in
    let high : greatest t ≡ Some n = one_longest (In t) (greatest t) (Some n) all.longest fixed.longest in
    and_from (has_length t n) (nat_le n max_fixed_length) (and_from (least t == n) (is_number (greatest t) n) (eq-eqb (least t) n low) (ap (λ g. is_number g n) high ∙ eq-eqb n n refl)) (le_true n max_fixed_length h.2)
  where
    le_true : (a b : ℕ) → a ≤ b → nat_le a b ≡ true
    le_true a b h = search rules

-- what passes has a fixed length
pub test_is_fixed : (t : Tree) (n : ℕ) → IsSoundTree t → has_fixed t n ≡ true → HasFixed t n
test_is_fixed t n sound h =
    let both = and_parts (has_length t n) (nat_le n max_fixed_length) h in
    let ends = and_parts (least t == n) (is_number (greatest t) n) both.0 in
    lengths_fixed t n (from (greatest t) (eqb-true (least t) n ends.0) ends.1 (has_lengths t sound)) (leb-true n max_fixed_length both.1)
  where
    from : (g : Option ℕ) → least t ≡ n → is_number g n ≡ true → HasLengths (In t) (least t) g → HasLengths (In t) n (Some n)
    from None low high has = absurd (no high)
      where
        no : false ≡ true → ⊥
        no e = cc
    from (Some m) low high has = subst (λ z. HasLengths (In t) n (Some z)) (eqb-true m n high) (subst (λ z. HasLengths (In t) z (Some m)) low has)

never_fixed : (t : Tree) → IsSoundTree t → ((n : ℕ) → HasFixed t n → ⊥) → (b : Bool) → is_fixed t ≡ b → not b ≡ true
never_fixed t sound none true e = absurd (none (least t) (test_is_fixed t (least t) sound e))
never_fixed t sound none false e = refl

pub not_fixed_is : (t : Tree) → IsSoundTree t → (b : Bool) → is_fixed t ≡ b → not b ≡ true → (n : ℕ) → HasFixed t n → ⊥
not_fixed_is t sound true e h n fixed = no h
  where
    no : false ≡ true → ⊥
    no p = cc
not_fixed_is t sound false e h n fixed =
    let low : least t ≡ n = one_least (In t) (least t) n (greatest t) (Some n) (has_lengths t sound) (fixed_lengths t n fixed) in
    no (sym e ∙ ap (has_fixed t) low ∙ fixed_is_tested t n sound fixed)
  where
    no : false ≡ true → ⊥
    no p = cc

pub cut_is_tested : (cut : Cut) (head : Tree) (trail : Option Tree) → IsSoundTree head → IfSome trail IsSoundTree → IsCutOf head trail cut → cut_fits cut head trail ≡ true
cut_is_tested cut head None h k is = ap whole is
  where
    whole : Cut → Bool
    whole c = cut_fits c head None
cut_is_tested Whole head (Some t) h k is = absurd is
cut_is_tested (Head m) head (Some t) h k is = fixed_is_tested head m h is
cut_is_tested (Trail n) head (Some t) h k is = and_from (not (is_fixed head)) (has_fixed t n) (never_fixed head h is.0 (is_fixed head) refl) (fixed_is_tested t n k is.1)

whole_is : (cut : Cut) → is_whole cut ≡ true → cut ≡ Whole
whole_is Whole h = refl
whole_is (Head m) h = absurd (no h)
  where
    no : false ≡ true → ⊥
    no p = cc
whole_is (Trail n) h = absurd (no h)
  where
    no : false ≡ true → ⊥
    no p = cc

-- the cut that passes is the one that the sides give
pub cut_is_fit : (cut : Cut) (head : Tree) (trail : Option Tree) → IsSoundTree head → IfSome trail IsSoundTree → cut_fits cut head trail ≡ true → IsCutOf head trail cut
cut_is_fit cut head None h k fits = whole_is cut fits
cut_is_fit Whole head (Some t) h k fits = no fits
  where
    no : false ≡ true → ⊥
    no p = cc
cut_is_fit (Head m) head (Some t) h k fits = test_is_fixed head m h fits
cut_is_fit (Trail n) head (Some t) h k fits =
    let both = and_parts (not (is_fixed head)) (has_fixed t n) fits in (not_fixed_is head h (is_fixed head) refl both.0, test_is_fixed t n k both.1)

-- where neither side is fixed there is no cut
pub no_cut : (head after : Tree) → ((n : ℕ) → HasFixed head n → ⊥) → ((n : ℕ) → HasFixed after n → ⊥) → (cut : Cut) → IsCutOf head (Some after) cut → ⊥
no_cut head after a b Whole h = h
no_cut head after a b (Head m) h = a m h
no_cut head after a b (Trail n) h = b n h.1

pub if_none : {A : Type 0} (o : Option A) (F : Type 0) → F → IfNone o F
if_none None F h = h
if_none (Some x) F h = tt
