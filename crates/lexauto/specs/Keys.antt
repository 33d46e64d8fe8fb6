-- Keys in order of their first finding.
use Rattle.std.specs.Prelude.{◌≡◌, ◌≢◌, ℕ, ◌⊎◌, List, [], ◌∷◌, ◌++◌, map, Option, Some, slice_get, Vec}
use Rattle.std.proofs.Common.{Global}
use Rattle.std.specs.declared.rc.Rc.{Rc}

abbrev pub Key : Type 0
Key = List ℕ

-- the key stands at this place
abbrev pub At : List Key → ℕ → Key → Type 0
At keys i k = slice_get keys i ≡ Some k

abbrev pub Absent : List Key → Key → Type 0
Absent keys k = (i : ℕ) → slice_get keys i ≢ Some k

-- no key stands at two places
abbrev pub Apart : List Key → Type 0
Apart keys = (i j : ℕ) (k : Key) → At keys i k → At keys j k → i ≡ j

-- the key is there now: it was, and nothing changed, or it was added at the end
abbrev pub Found : List Key → Key → List Key → Type 0
Found old k new = ((i : ℕ) × At old i k × (new ≡ old)) ⊎ (Absent old k × (new ≡ old ++ k ∷ []))

abbrev pub keys_in : List (Rc (Vec ℕ Global) Global) → List Key
keys_in vs = map (λ v. v.value.items) vs

-- the look-up finds just the places
pub record Finds (find : Key → Option ℕ) (keys : List Key) : Type 0 where
  pub place : (k : Key) (i : ℕ) → find k ≡ Some i → At keys i k
  pub all : (k : Key) (i : ℕ) → At keys i k → find k ≡ Some i
