-- Trees are walked alike where their parts are.
use Rattle.std.proofs.Common.{◌<◌, ◌≤◌, length, drop, get_or, ◌≡◌, ℕ, ◌+◌, ◌*◌, ◌||◌, Bool, false, List, [], ◌∷◌, ◌++◌, map, Option, refl, sym, ap, ◌∙◌, arith}
use Rattle.std.proofs.Math.Path.{fun_ext}
use Rattle.std.proofs.lemmas.List.{drop_more, drop_all}
use Rattle.std.specs.Prelude.{IfOk, Result, Ok, Err}
use Rattle.lex_semantics.specs.Tree.{Tree, Trees, Empty, Cat, Alt, Star, Repeat, tree, trees}
use Rattle.lex_semantics.specs.Positions.{positions, positions_of, copies}
use Rattle.lex_semantics.specs.Shapes.{IsSoundTree}
use Rattle.lexauto_positions.specs.Flow.{has_no_number, passes, comes, exits, exits_each, exits_some, enters, enters_each, enters_some}
use Rattle.lexauto_positions.specs.RuleFlow.{reads, each_read, copies_read}
use Rattle.lexauto_positions.specs.Alike.{Alike, AlikeAll}
use Rattle.lexauto_positions.specs.Plans.{plans, tree_in, trees_in, trees_laid, plan_of, IsSized, AreSized}
use Rattle.lexauto_positions.specs.declared.layout.SizedPattern.{SizedPattern}
use Rattle.lexauto_positions.proofs.Copies.{nothing_left, nothing_comes}
use Rattle.lexauto_positions.proofs.LetterTests.{nothing_read}

abbrev Left : Type 0
Left = (ℕ → Bool) → ℕ → Bool → Bool

abbrev Next : Type 0
Next = (ℕ → Bool) → ℕ → ℕ → Bool → Bool

abbrev Letters : Type 0
Letters = ℕ → ℕ → ℕ → Bool

pub alike_self : (t : Tree) → Alike t t
alike_self t = record { size = refl; left = refl; next = refl; letters = refl }

pub alike_on : (t u v : Tree) → Alike t u → Alike u v → Alike t v
alike_on t u v h k = record { size = h.size ∙ k.size; left = h.left ∙ k.left; next = h.next ∙ k.next; letters = h.letters ∙ k.letters }

pub all_alike_self : (ts : Trees) → AlikeAll ts ts
all_alike_self ts = record { size = refl; each_left = refl; some_left = refl; each_next = refl; some_next = refl; letters = refl }

-- a tree without positions is walked like the empty text
pub alike_nothing : (t : Tree) → IsSoundTree t → positions t ≡ 0 → Alike Empty t
alike_nothing t h z = record {
  size = sym z;
  left = fun_ext (λ S. fun_ext (λ base. fun_ext (λ i. sym (nothing_left S t h z base i))));
  next = fun_ext (λ S. fun_ext (λ q. fun_ext (λ base. fun_ext (λ i. sym (nothing_comes S q t h z base i)))));
  letters = fun_ext (λ b. fun_ext (λ q. fun_ext (λ base. sym (nothing_read b q t z base))));
}

module _ (t u : Tree) (ts us : Trees) (h : Alike t u) (k : AlikeAll ts us) where
  abbrev each_left_by : ℕ → Left → Left → Left
  each_left_by n x xs S base i = xs S (base + n) (x S base i)

  abbrev some_left_by : ℕ → Left → Left → Left
  some_left_by n x xs S base i = x S base i || xs S (base + n) i

  abbrev each_next_by : ℕ → Left → Next → Next → Next
  each_next_by n x y ys S q base i = y S q base i || ys S q (base + n) (x S base i)

  abbrev some_next_by : ℕ → Next → Next → Next
  some_next_by n y ys S q base i = y S q base i || ys S q (base + n) i

  abbrev letters_by : ℕ → Letters → Letters → Letters
  letters_by n z zs b q base = z b q base || zs b q (base + n)

  pub alike_first : AlikeAll (tree t ts) (tree u us)
  alike_first = record {
    size = ap (λ n. n + positions_of ts) h.size ∙ ap (λ n. positions u + n) k.size;
    each_left = ap (λ n. each_left_by n (exits t) (exits_each ts)) h.size ∙ ap (λ x. each_left_by (positions u) x (exits_each ts)) h.left ∙ ap (each_left_by (positions u) (exits u)) k.each_left;
    some_left = ap (λ n. some_left_by n (exits t) (exits_some ts)) h.size ∙ ap (λ x. some_left_by (positions u) x (exits_some ts)) h.left ∙ ap (some_left_by (positions u) (exits u)) k.some_left;
    each_next = ap (λ n. each_next_by n (exits t) (enters t) (enters_each ts)) h.size ∙ ap (λ x. each_next_by (positions u) x (enters t) (enters_each ts)) h.left
        ∙ ap (λ y. each_next_by (positions u) (exits u) y (enters_each ts)) h.next ∙ ap (each_next_by (positions u) (exits u) (enters u)) k.each_next;
    some_next = ap (λ n. some_next_by n (enters t) (enters_some ts)) h.size ∙ ap (λ y. some_next_by (positions u) y (enters_some ts)) h.next ∙ ap (some_next_by (positions u) (enters u)) k.some_next;
    letters = ap (λ n. letters_by n (reads t) (each_read ts)) h.size ∙ ap (λ z. letters_by (positions u) z (each_read ts)) h.letters ∙ ap (letters_by (positions u) (reads u)) k.letters;
  }

pub alike_series : (ts us : Trees) → AlikeAll ts us → Alike (Cat ts) (Cat us)
alike_series ts us h = record { size = h.size; left = h.each_left; next = h.each_next; letters = h.letters }

pub alike_choice : (ts us : Trees) → AlikeAll ts us → Alike (Alt ts) (Alt us)
alike_choice ts us h = record { size = h.size; left = h.some_left; next = h.some_next; letters = h.letters }

abbrev star_left : Left → Left
star_left x S base i = i || x S base false

abbrev star_next : Left → Next → Next
star_next x y S q base i = y S q base (i || x S base false)

pub alike_star : (t u : Tree) → Alike t u → Alike (Star t) (Star u)
alike_star t u h = record {
  size = h.size;
  left = ap star_left h.left;
  next = ap (λ x. star_next x (enters t)) h.left ∙ ap (star_next (exits u)) h.next;
  letters = h.letters;
}

module _ (m : ℕ) (n : Option ℕ) where
  abbrev copies_left : ℕ → Left → Left
  copies_left k x S base i = passes (x S) base k m false i (copies m n)

  abbrev copies_next : ℕ → Left → Next → Next
  copies_next k x y S q base i = comes (y S q) (x S) (has_no_number n) base k i (copies m n)

  abbrev copies_letters : ℕ → Letters → Letters
  copies_letters k z b q base = copies_read (z b q) base k (copies m n)

  pub alike_repeat : (t u : Tree) → Alike t u → Alike (Repeat t m n) (Repeat u m n)
  alike_repeat t u h = record {
    size = ap (λ k. copies m n * k) h.size;
    left = ap (λ k. copies_left k (exits t)) h.size ∙ ap (copies_left (positions u)) h.left;
    next = ap (λ k. copies_next k (exits t) (enters t)) h.size ∙ ap (λ x. copies_next (positions u) x (enters t)) h.left ∙ ap (copies_next (positions u) (exits u)) h.next;
    letters = ap (λ k. copies_letters k (reads t)) h.size ∙ ap (copies_letters (positions u)) h.letters;
  }

-- one of a list of trees is walked like another
pub alike_within : (before : List Tree) (t u : Tree) (rest : List Tree) → Alike t u → AlikeAll (trees (before ++ t ∷ rest)) (trees (before ++ u ∷ rest))
alike_within [] t u rest h = alike_first t u (trees rest) (trees rest) h (all_alike_self (trees rest))
alike_within (x ∷ before) t u rest h = alike_first x x (trees (before ++ t ∷ rest)) (trees (before ++ u ∷ rest)) (alike_self x) (alike_within before t u rest h)

pub laid_are : (ps : List SizedPattern) → trees (trees_laid ps) ≡ trees_in (plans (map plan_of ps))
laid_are [] = refl
laid_are (p ∷ ps) = ap (tree (tree_in (plan_of p))) (laid_are ps)

pub none_after : (ts : List Tree) → ts ++ [] ≡ ts
none_after [] = refl
none_after (t ∷ ts) = ap (λ us. t ∷ us) (none_after ts)

pub sized_more : (ps : List SizedPattern) (p : SizedPattern) → positions_of (trees_in (plans (map plan_of (ps ++ p ∷ [])))) ≡ positions_of (trees_in (plans (map plan_of ps))) + positions (tree_in (plan_of p))
sized_more [] p = omega arith
sized_more (x ∷ ps) p = let r = sized_more ps p in omega (arith, r)

pub are_sized_more : (ps : List SizedPattern) (p : SizedPattern) → AreSized (plans (map plan_of ps)) → IsSized (plan_of p) → AreSized (plans (map plan_of (ps ++ p ∷ [])))
are_sized_more [] p h k = (k, tt)
are_sized_more (x ∷ ps) p h k = (h.0, are_sized_more ps p h.1 k)

pub drop_one : {A B : Type 0} (f : A → B) (xs : List A) (i : ℕ) (x : A) → i < length xs → x ≡ get_or xs i x → map f (drop i xs) ≡ f x ∷ map f (drop (i + 1) xs)
drop_one f xs i x h e = ap (map f) (drop_more xs i x h) ∙ ap (λ z. f z ∷ map f (drop (i + 1) xs)) (sym e)

pub drop_none : {A B : Type 0} (f : A → B) (xs : List A) (i : ℕ) → length xs ≤ i → map f (drop i xs) ≡ []
drop_none f xs i h = ap (map f) (drop_all i xs h)

pub if_ok_by : {A E : Type 0} (r : Result A E) (P Q : A → Type 0) → ((x : A) → P x → Q x) → IfOk r P → IfOk r Q
if_ok_by (Ok x) P Q f h = f x h
if_ok_by (Err e) P Q f h = tt
