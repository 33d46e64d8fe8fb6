-- Labels of lists: the first state with the same list.
use Rattle.std.specs.Prelude.{◌≡◌, ℕ, ◌<◌, List, [], map, length, Option, Some, slice_index, slice_index_or, Vec}
use Rattle.std.proofs.Common.{Global}
use Rattle.std.specs.BTreeMap.{BTreeMap, get_by}
use Rattle.std.specs.Cmp.Lexicographic.{slice_cmp}
use Rattle.std.specs.Ordering.{nat_cmp}
use Rattle.std.specs.declared.rc.Rc.{Rc}

abbrev pub list_at : List (Rc (Vec ℕ Global) Global) → ℕ → List ℕ
list_at vs x = slice_index_or (map (λ v. v.value.items) vs) x []

-- what the map has at a list
abbrev pub look : BTreeMap (Vec ℕ Global) ℕ → List ℕ → Option ℕ
look m k = get_by (λ v. slice_cmp nat_cmp k v.items) m

-- one label for each list: a place where the same list stands
pub record AreLabels (vs : List (Rc (Vec ℕ Global) Global)) (labels : List ℕ) : Type 0 where
  pub len : length labels ≡ length vs
  pub low : (x : ℕ) → x < length vs → slice_index labels x < length vs
  pub same : (x y : ℕ) → x < length vs → y < length vs → slice_index labels x ≡ slice_index labels y
      → list_at vs x ≡ list_at vs y
  pub first : (x : ℕ) → x < length vs → list_at vs (slice_index labels x) ≡ list_at vs x
  pub one : (x y : ℕ) → x < length vs → y < length vs → list_at vs x ≡ list_at vs y
      → slice_index labels x ≡ slice_index labels y

-- up to the state n
pub record Labelled (vs : List (Rc (Vec ℕ Global) Global)) (find : List ℕ → Option ℕ) (labels : List ℕ) (n : ℕ)
    : Type 0 where
  pub len : length labels ≡ n
  pub there : (y : ℕ) → y < n → find (list_at vs y) ≡ Some (slice_index labels y)
  pub from : (k : List ℕ) (i : ℕ) → find k ≡ Some i → (i < n) × (list_at vs i ≡ k)
