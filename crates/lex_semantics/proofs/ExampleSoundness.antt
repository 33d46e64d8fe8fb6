-- The worked examples of soundness.
use Rattle.std.proofs.Common.{◌≡◌, ℕ, zero, suc, ◌≤◌, List, [], ◌∷◌, length, Some, None, refl, ap, subst, arith}
use Rattle.std.specs.Prelude.{codes, slice_get, replicate}
use Rattle.std.proofs.lemmas.List.{length-replicate}
use Rattle.lex_semantics.specs.ByteSets.{IsIn, has, single, union, set_of}
use Rattle.lex_semantics.specs.Tree.{Tree, Set, Repeat, In}
use Rattle.lex_semantics.specs.Spec.{Rule, Condition, Head, Trail}
use Rattle.lex_semantics.specs.Legal.{IsLegal}
use Rattle.lex_semantics.specs.Sound.{HasFixed, IsSoundRule, IsSound}
use Rattle.lex_semantics.specs.Examples as E
use Rattle.lex_semantics.specs.Examples.{letter, string, rule_before, initial}
use Rattle.lex_semantics.proofs.WordReadings.{match_of, in_of_match}
use Rattle.lex_semantics.proofs.ExampleWords.{AllAlone, is_a, is_b, is_c, is_d, is_newline, letter_is, letter_in, string_is, string_in}

no_rules : (i : ℕ) (r : Rule) → slice_get {X = Rule} [] i ≡ Some r → ⊥
no_rules zero r e = cc
no_rules (suc i) r e = cc

no_conditions : (c : ℕ) (k : Condition) → slice_get {X = Condition} [] c ≡ Some k → ⊥
no_conditions zero k e = cc
no_conditions (suc c) k e = cc

some_same : {A : Type 0} (a b : A) → Some a ≡ Some b → a ≡ b
some_same a b e = cc

-- what holds of the one condition holds of each
only_condition : (P : Condition → Type 0) (d : Condition) → P d → (c : ℕ) (k : Condition) → slice_get (d ∷ []) c ≡ Some k → P k
only_condition P d h zero k e = subst P (some_same d k e) h
only_condition P d h (suc c) k e = absurd (no_conditions c k e)

only_rule : (P : Rule → Type 0) (q : Rule) → P q → (i : ℕ) (r : Rule) → slice_get (q ∷ []) i ≡ Some r → P r
only_rule P q h zero r e = subst P (some_same q r e) h
only_rule P q h (suc i) r e = absurd (no_rules i r e)

-- a tree of one word
one_word : (t : Tree) (v : List ℕ) → In t v → ((w : List ℕ) → In t w → w ≡ v) → length v ≤ 65535 → HasFixed t (length v)
one_word t v word only few = ((v, match_of t v word), λ w h. ap length (only w (in_of_match t w h)), few)

fixed_string : (bs : List ℕ) → AllAlone bs → length bs ≤ 65535 → HasFixed (string bs) (length bs)
fixed_string bs alone few = one_word (string bs) bs (string_in bs alone) (string_is bs alone) few

legal_none : IsLegal 1 []
legal_none = (record { ranges = refl; last = refl; compatible = refl }, refl)

ab : AllAlone (97 ∷ 98 ∷ [])
ab = (is_a, (is_b, tt))

of_initial : (rs : List Rule) → ((i : ℕ) (r : Rule) → slice_get rs i ≡ Some r → IsSoundRule 1 r) → IsSound (E.of_rules rs)
of_initial rs each = record {
  some_condition = omega arith;
  ends = λ c k e. only_condition (λ (z : Condition). z.end.status ≤ 63) initial (omega arith) c k e;
  prints = λ c k e. only_condition (λ (z : Condition). length z.end.print ≤ 4096) initial (omega arith) c k e;
  rules = each;
}

pub head_cuts : IsSound (E.cut_by (Head 2))
head_cuts = of_initial _ (λ i r e. only_rule (IsSoundRule 1) _ sides i r e)
  where
    sides : IsSoundRule 1 (rule_before (string (codes "ab")) (string (codes "cd")) (Head 2) [])
    sides = record {
      listed = tt;
      head = (((97, is_a.0), ((98, is_b.0), tt)), λ e. cc);
      trail = (((99, is_c.0), ((100, is_d.0), tt)), λ e. cc);
      cut = fixed_string (97 ∷ 98 ∷ []) ab (omega arith);
      legal = legal_none;
    }

pub trail_does_not : IsSound (E.cut_by (Trail 2)) → ⊥
trail_does_not h = (h.rules 0 _ refl).cut.0 2 (fixed_string (97 ∷ 98 ∷ []) ab (omega arith))

pub shorter_cut : IsSound (E.cut_by (Head 1)) → ⊥
shorter_cut h =
    let fixed : HasFixed (string (codes "ab")) 1 = (h.rules 0 _ refl).cut in
    let bad : ◌≡◌ {A = ℕ} 2 1 = fixed.1 (97 ∷ 98 ∷ []) (match_of (string (codes "ab")) (97 ∷ 98 ∷ []) (string_in (97 ∷ 98 ∷ []) ab)) in
    omega arith

-- blanks are no side of fixed length

blank : Tree
blank = Set (union (single 32) (single 9))

space : IsIn (union (single 32) (single 9)) 32
unfolding has single union set_of
space = (omega arith, refl)

not_fixed : (m : ℕ) → HasFixed (Repeat blank 1 None) m → ⊥
unfolding blank
not_fixed m h =
    let low : 1 ≡ m = h.1 (32 ∷ []) (match_of (Repeat blank 1 None) (32 ∷ []) (1, omega arith, tt, (32 ∷ [], [], refl, (32, refl, space), refl))) in
    let high : 2 ≡ m = h.1 (32 ∷ 32 ∷ []) (match_of (Repeat blank 1 None) (32 ∷ 32 ∷ []) (2, omega arith, tt, (32 ∷ [], 32 ∷ [], refl, (32, refl, space), (32 ∷ [], [], refl, (32, refl, space), refl)))) in
    omega arith

pub trail_cuts : IsSound E.trim_lines
unfolding blank
trail_cuts = of_initial _ (λ i r e. only_rule (IsSoundRule 1) _ sides i r e)
  where
    sides : IsSoundRule 1 (rule_before (Repeat blank 1 None) (letter 10) (Trail 1) [])
    sides = record {
      listed = tt;
      head = ((32, space), tt);
      trail = (10, is_newline.0);
      cut = (not_fixed, one_word (letter 10) (10 ∷ []) (letter_in 10 is_newline) (letter_is 10 is_newline) (omega arith));
      legal = legal_none;
    }

ends_sound : (n : ℕ) → n ≤ 4096 → IsSound (E.ends_with_bytes n)
ends_sound n few = record {
  some_condition = omega arith;
  ends = λ c k e. only_condition (λ (z : Condition). z.end.status ≤ 63) _ (omega arith) c k e;
  prints = λ c k e. only_condition (λ (z : Condition). length z.end.print ≤ 4096) _ (rw length-replicate few) c k e;
  rules = λ i r e. absurd (no_rules i r e);
}

pub longest_end : IsSound (E.ends_with_bytes 4096)
longest_end = ends_sound 4096 (omega arith)

ends_short : (n : ℕ) → IsSound (E.ends_with_bytes n) → n ≤ 4096
ends_short n h = let few : length (replicate n 120) ≤ 4096 = h.prints 0 _ refl in let size : length (replicate n 120) ≡ n = length-replicate n 120 in subst (λ z. z ≤ 4096) size few

pub longer_end : IsSound (E.ends_with_bytes 4097) → ⊥
longer_end h = let bad : 4097 ≤ 4096 = ends_short 4097 h in omega arith
