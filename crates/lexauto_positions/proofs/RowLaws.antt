-- Series and choices are walked alike without their parts that have no position.
use Rattle.std.specs.Prelude.{◌≡◌, ℕ, ◌+◌, ◌||◌, Bool, true, false, List, [], ◌∷◌, ◌++◌, Some}
use Rattle.std.proofs.Common.{refl, ap, sym, subst, ◌∙◌, arith}
use Rattle.std.proofs.Math.Path.{fun_ext}
use Rattle.lex_semantics.specs.Tree.{Tree, Trees, Empty, Cat, Alt, trees}
use Rattle.lex_semantics.specs.Positions.{positions, positions_of}
use Rattle.lexauto_positions.specs.Flow.{exits, exits_each, exits_some, enters, enters_each, enters_some}
use Rattle.lexauto_positions.specs.RuleFlow.{reads, each_read}
use Rattle.lexauto_positions.specs.Alike.{Alike, AlikeAll, choice_of}
use Rattle.lexauto_positions.specs.Signs.{signed}
use Rattle.lexauto_positions.specs.Plans.{plan_of, tree_in, trees_laid}
use Rattle.lexauto_positions.specs.declared.layout.SizedPattern.{SizedPattern}
use Rattle.lexauto_positions.specs.declared.layout.Operator.TheVariants as S
use Rattle.lexauto_positions.proofs.Copies.{or_false}
use Rattle.lexauto_positions.proofs.AlikeLaws.{alike_on, alike_within, alike_series, alike_choice, alike_repeat}
use Rattle.lexauto_positions.proofs.SignLaws.{one_sign, alike_signed}

or_swap : (a b c : Bool) → (a || (b || c)) ≡ (b || (a || c))
or_swap true true c = refl
or_swap true false c = refl
or_swap false b c = refl

module _ (rest : List Tree) where
  same_size : (before : List Tree) → positions_of (trees (before ++ rest)) ≡ positions_of (trees (before ++ Empty ∷ rest))
  same_size [] = omega arith
  same_size (x ∷ before) = ap (λ n. positions x + n) (same_size before)

  same_letters : (before : List Tree) (b q base : ℕ) → each_read (trees (before ++ rest)) b q base ≡ each_read (trees (before ++ Empty ∷ rest)) b q base
  same_letters [] b q base = ap (each_read (trees rest) b q) (omega arith)
  same_letters (x ∷ before) b q base = ap (λ r. reads x b q base || r) (same_letters before b q (base + positions x))

  module _ (on : ℕ → Bool) where
    each_left : (before : List Tree) (base : ℕ) (i : Bool) → exits_each (trees (before ++ rest)) on base i ≡ exits_each (trees (before ++ Empty ∷ rest)) on base i
    each_left [] base i = ap (λ n. exits_each (trees rest) on n i) (omega arith)
    each_left (x ∷ before) base i = each_left before (base + positions x) (exits x on base i)

    each_next : (before : List Tree) (q base : ℕ) (i : Bool) → enters_each (trees (before ++ rest)) on q base i ≡ enters_each (trees (before ++ Empty ∷ rest)) on q base i
    each_next [] q base i = ap (λ n. enters_each (trees rest) on q n i) (omega arith)
    each_next (x ∷ before) q base i = ap (λ r. enters x on q base i || r) (each_next before q (base + positions x) (exits x on base i))

    some_left : (before : List Tree) (base : ℕ) (i : Bool) → (i || exits_some (trees (before ++ rest)) on base i) ≡ exits_some (trees (before ++ Empty ∷ rest)) on base i
    some_left [] base i = ap (λ n. i || exits_some (trees rest) on n i) (omega arith)
    some_left (x ∷ before) base i =
        or_swap i (exits x on base i) (exits_some (trees (before ++ rest)) on (base + positions x) i)
        ∙ ap (λ r. exits x on base i || r) (some_left before (base + positions x) i)

    some_next : (before : List Tree) (q base : ℕ) (i : Bool) → enters_some (trees (before ++ rest)) on q base i ≡ enters_some (trees (before ++ Empty ∷ rest)) on q base i
    some_next [] q base i = ap (λ n. enters_some (trees rest) on q n i) (omega arith)
    some_next (x ∷ before) q base i = ap (λ r. enters x on q base i || r) (some_next before q (base + positions x) i)

-- in a series a tree without positions adds nothing
series_without : (before rest : List Tree) → Alike (Cat (trees (before ++ rest))) (Cat (trees (before ++ Empty ∷ rest)))
series_without before rest = record {
  size = same_size rest before;
  left = fun_ext (λ on. fun_ext (λ base. fun_ext (λ i. each_left rest on before base i)));
  next = fun_ext (λ on. fun_ext (λ q. fun_ext (λ base. fun_ext (λ i. each_next rest on before q base i))));
  letters = fun_ext (λ b. fun_ext (λ q. fun_ext (λ base. same_letters rest before b q base)));
}

choice_alike : (o : Bool) (ts us : Trees) → AlikeAll ts us → Alike (choice_of o ts) (choice_of o us)
choice_alike false ts us h = alike_choice ts us h
choice_alike true ts us h = alike_repeat 0 (Some 1) (Alt ts) (Alt us) (alike_choice ts us h)

choice_once : (before rest : List Tree) → Alike (choice_of true (trees (before ++ rest))) (Alt (trees (before ++ Empty ∷ rest)))
choice_once before rest = record {
  size = let same = same_size rest before in omega (arith, same);
  left = fun_ext (λ on. fun_ext (λ base. fun_ext (λ i. some_left rest on before base i)));
  next = fun_ext (λ on. fun_ext (λ q. fun_ext (λ base. fun_ext (λ i.
      or_false (enters_some (trees (before ++ rest)) on q base (i || false))
      ∙ ap (enters_some (trees (before ++ rest)) on q base) (or_false i)
      ∙ some_next rest on before q base i))));
  letters = fun_ext (λ b. fun_ext (λ q. fun_ext (λ base. or_false (each_read (trees (before ++ rest)) b q base) ∙ same_letters rest before b q base)));
}

-- in a choice it makes the choice optional
choice_without : (o : Bool) (before rest : List Tree) → Alike (choice_of true (trees (before ++ rest))) (choice_of o (trees (before ++ Empty ∷ rest)))
choice_without false before rest = choice_once before rest
choice_without true before rest =
    let own = choice_of true (trees (before ++ rest)) in
    alike_on own (signed S.Optional own) (choice_of true (trees (before ++ Empty ∷ rest)))
    (one_sign S.Optional S.Optional S.Optional refl refl (Alt (trees (before ++ rest))))
    (alike_signed S.Optional own (Alt (trees (before ++ Empty ∷ rest))) (choice_once before rest))

module _ (laid : List SizedPattern) (p : SizedPattern) (t : Tree) (rest : List Tree) (whole : Tree) (h : Alike (tree_in (plan_of p)) t) where
  module _ (e : tree_in (plan_of p) ≡ Empty) where
    empty : AlikeAll (trees (trees_laid laid ++ Empty ∷ rest)) (trees (trees_laid laid ++ t ∷ rest))
    empty = alike_within (trees_laid laid) Empty t rest (subst (λ u. Alike u t) e h)

    pub series_left_out : Alike (Cat (trees (trees_laid laid ++ t ∷ rest))) whole → Alike (Cat (trees (trees_laid laid ++ rest))) whole
    series_left_out k =
        alike_on (Cat (trees (trees_laid laid ++ rest))) (Cat (trees (trees_laid laid ++ Empty ∷ rest))) whole (series_without (trees_laid laid) rest)
        (alike_on (Cat (trees (trees_laid laid ++ Empty ∷ rest))) (Cat (trees (trees_laid laid ++ t ∷ rest))) whole (alike_series _ _ empty) k)

    pub choice_left_out : (o : Bool) → Alike (choice_of o (trees (trees_laid laid ++ t ∷ rest))) whole → Alike (choice_of true (trees (trees_laid laid ++ rest))) whole
    choice_left_out o k =
        alike_on (choice_of true (trees (trees_laid laid ++ rest))) (choice_of o (trees (trees_laid laid ++ Empty ∷ rest))) whole (choice_without o (trees_laid laid) rest)
        (alike_on (choice_of o (trees (trees_laid laid ++ Empty ∷ rest))) (choice_of o (trees (trees_laid laid ++ t ∷ rest))) whole
        (choice_alike o (trees (trees_laid laid ++ Empty ∷ rest)) (trees (trees_laid laid ++ t ∷ rest)) empty) k)

  regroup : (ps : List SizedPattern) → trees_laid (ps ++ p ∷ []) ++ rest ≡ trees_laid ps ++ tree_in (plan_of p) ∷ rest
  regroup [] = refl
  regroup (x ∷ ps) = ap (λ ts. tree_in (plan_of x) ∷ ts) (regroup ps)

  within : AlikeAll (trees (trees_laid (laid ++ p ∷ []) ++ rest)) (trees (trees_laid laid ++ t ∷ rest))
  within = subst (λ ts. AlikeAll (trees ts) (trees (trees_laid laid ++ t ∷ rest))) (sym (regroup laid)) (alike_within (trees_laid laid) (tree_in (plan_of p)) t rest h)

  pub series_more : Alike (Cat (trees (trees_laid laid ++ t ∷ rest))) whole → Alike (Cat (trees (trees_laid (laid ++ p ∷ []) ++ rest))) whole
  series_more k = alike_on (Cat (trees (trees_laid (laid ++ p ∷ []) ++ rest))) (Cat (trees (trees_laid laid ++ t ∷ rest))) whole (alike_series _ _ within) k

  pub choice_more : (o : Bool) → Alike (choice_of o (trees (trees_laid laid ++ t ∷ rest))) whole → Alike (choice_of o (trees (trees_laid (laid ++ p ∷ []) ++ rest))) whole
  choice_more o k =
      alike_on (choice_of o (trees (trees_laid (laid ++ p ∷ []) ++ rest))) (choice_of o (trees (trees_laid laid ++ t ∷ rest))) whole
      (choice_alike o (trees (trees_laid (laid ++ p ∷ []) ++ rest)) (trees (trees_laid laid ++ t ∷ rest)) within) k
