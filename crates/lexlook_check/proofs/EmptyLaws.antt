-- Parts of a choice that take the empty text.
use Rattle.std.proofs.Common.{◌≡◌, ◌∙◌, ℕ, zero, suc, ◌==◌, ◌≤◌, ◌<◌, ◌||◌, Bool, true, false, List, [], ◌∷◌, length, map, drop, get_or, Some, refl, sym, ap, arith}
use Rattle.std.specs.Prelude.{min, unwrap_or}
use Rattle.std.proofs.Math.Dec.{eqb-suc-zero}
use Rattle.std.proofs.Math.Nat.{min-zero, suc-min-suc, zero-min}
use Rattle.lex_semantics.specs.Tree.{Tree, Trees, no_trees, tree, trees}
use Rattle.lexre.specs.Lengths.{least, least_of_some, lesser}
use Rattle.lexre.specs.Views.{tree_of}
use Rattle.lexre.specs.declared.pattern.Pattern.{Pattern}

-- some part has a least text without a byte
abbrev pub some_empty : Trees → Bool
some_empty no_trees = false
some_empty (tree t ts) = least t == 0 || some_empty ts

least_is_zero : (a b : ℕ) → (min a b == 0) ≡ (a == 0 || b == 0)
least_is_zero zero b = ap (λ n. n == 0) (zero-min b)
least_is_zero (suc a) zero = ap (λ n. n == 0) (min-zero (suc a)) ∙ sym (ap (λ b. b || true) (eqb-suc-zero a))
least_is_zero (suc a) (suc b) =
    ap (λ n. n == 0) (suc-min-suc a b) ∙ eqb-suc-zero (min a b) ∙ sym (ap (λ c. c || (suc b == 0)) (eqb-suc-zero a) ∙ eqb-suc-zero b)

or_false : (b : Bool) → b ≡ (b || false)
or_false true = refl
or_false false = refl

pub some_least : (t : Tree) (ts : Trees) → (n : ℕ) × (least_of_some (tree t ts) ≡ Some n) × ((n == 0) ≡ some_empty (tree t ts))
some_least t no_trees = (least t, refl, or_false (least t == 0))
some_least t (tree u us) = from (some_least u us)
  where
    from : (n : ℕ) × (least_of_some (tree u us) ≡ Some n) × ((n == 0) ≡ some_empty (tree u us))
        → (n : ℕ) × (least_of_some (tree t (tree u us)) ≡ Some n) × ((n == 0) ≡ some_empty (tree t (tree u us)))
    from (n, e, h) = (min (least t) n, ap (lesser (Some (least t))) e, least_is_zero (least t) n ∙ ap (λ z. least t == 0 || z) h)

pub some_is : (ps : List Pattern) → (length ps ≡ 0 → ⊥) → (unwrap_or (least_of_some (trees (map tree_of ps))) 0 == 0) ≡ some_empty (trees (map tree_of ps))
some_is [] h = absurd (h refl)
some_is (p ∷ ps) h = from (some_least (tree_of p) (trees (map tree_of ps)))
  where
    from : (n : ℕ) × (least_of_some (trees (map tree_of (p ∷ ps))) ≡ Some n) × ((n == 0) ≡ some_empty (trees (map tree_of (p ∷ ps))))
        → (unwrap_or (least_of_some (trees (map tree_of (p ∷ ps)))) 0 == 0) ≡ some_empty (trees (map tree_of (p ∷ ps)))
    from (n, e, h) = ap (λ x. unwrap_or x 0 == 0) e ∙ h

pub some_at : (ps : List Pattern) (i : ℕ) (p : Pattern) → i < length ps → p ≡ get_or ps i p → true ≡ (least (tree_of p) == 0) → true ≡ some_empty (trees (map tree_of (drop i ps)))
some_at [] i p near is e = absurd (omega (arith, near))
some_at (q ∷ ps) zero p near is e = ap (λ b. b || some_empty (trees (map tree_of ps))) (e ∙ ap (λ (x : Pattern). least (tree_of x) == 0) is)
some_at (q ∷ ps) (suc i) p near is e = some_at ps i p (omega (arith, near)) is e

pub none_behind : (ps : List Pattern) (i : ℕ) → length ps ≤ i → false ≡ some_empty (trees (map tree_of (drop i ps)))
none_behind [] zero far = refl
none_behind [] (suc i) far = refl
none_behind (p ∷ ps) zero far = absurd (omega (arith, far))
none_behind (p ∷ ps) (suc i) far = none_behind ps i (omega (arith, far))
