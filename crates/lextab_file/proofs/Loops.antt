-- Reading many things, as a loop does.
use Rattle.std.proofs.Common.{◌≡◌, ℕ, suc, ◌-◌, ◌+◌, ◌≤◌, ◌<◌, List, [], ◌∷◌, ◌++◌, Result, Ok, Err, refl, sym, ap, ◌∙◌, append_assoc, arith}
use Rattle.std.proofs.lemmas.List.{append-nil}
use Rattle.lextab_file.specs.declared.error.ReadError.{ReadError}
use Rattle.lextab_file.specs.Views.{Fails}
use Rattle.lextab_file.specs.Reading.{FieldReader, ◌>>=◌, many}

-- what was read before, and what is still read
abbrev pub with_front : {A : Type 0} → List A → Result (List A × List ℕ) ReadError → Result (List A × List ℕ) ReadError
with_front front read = read >>= λ x. Ok (front ++ x.0, x.1)

regroup : {A : Type 0} (front : List A) (x : A) (read : Result (List A × List ℕ) ReadError) → with_front front (read >>= λ xs. Ok (x ∷ xs.0, xs.1)) ≡ with_front (front ++ x ∷ []) read
regroup {A} front x (Ok y) = ap (λ (xs : List A). Ok (xs, y.1)) (simp append_assoc)
regroup front x (Err e) = refl

module _ {A S : Type 0} (r : S → FieldReader A) (next : S → A → S) where
  pub goes_on : (front : List A) (count i : ℕ) (s : S) (bytes : List ℕ) (x : A) (after : List ℕ) (total : Result (List A × List ℕ) ReadError) → i < count → r s bytes ≡ Ok (x, after)
      → with_front front (many r next (count - i) s bytes) ≡ total → with_front (front ++ x ∷ []) (many r next (count - (i + 1)) (next s x) after) ≡ total
  unfolding many
  goes_on front count i s bytes x after total lt h so_far =
      let k : count - i ≡ suc (count - (i + 1)) = omega arith in
      let one : with_front front (many r next (count - i) s bytes) ≡ with_front (front ++ x ∷ []) (many r next (count - (i + 1)) (next s x) after) = rw (k, h) (regroup front x (many r next (count - (i + 1)) (next s x) after)) in
      sym one ∙ so_far

  pub ends : (e : ReadError) (front : List A) (count i : ℕ) (s : S) (bytes : List ℕ) (total : Result (List A × List ℕ) ReadError) → i < count → Fails e (r s bytes)
      → with_front front (many r next (count - i) s bytes) ≡ total → Fails e total
  unfolding many
  ends e front count i s bytes total lt fails so_far = λ m.
      let k : count - i ≡ suc (count - (i + 1)) = omega arith in
      let h : r s bytes ≡ Err e = fails m in
      let one : with_front front (many r next (count - i) s bytes) ≡ Err e = rw (k, h) refl in
      sym so_far ∙ one

  pub is_done : (front : List A) (count i : ℕ) (s : S) (bytes : List ℕ) (total : Result (List A × List ℕ) ReadError) → count ≤ i → with_front front (many r next (count - i) s bytes) ≡ total → total ≡ Ok (front, bytes)
  unfolding many
  is_done front count i s bytes total le so_far =
      let k : count - i ≡ 0 = omega arith in
      let one : with_front front (many r next (count - i) s bytes) ≡ Ok (front, bytes) = rw k (ap (λ (xs : List A). Ok (xs, bytes)) (append-nil front)) in
      sym so_far ∙ one

  -- before the first
  pub begins : (count : ℕ) (s : S) (bytes : List ℕ) → with_front [] (many r next (count - 0) s bytes) ≡ many r next count s bytes
  begins count s bytes = let k : count - 0 ≡ count = omega arith in rw k (same (many r next count s bytes))
    where
      same : (o : Result (List A × List ℕ) ReadError) → with_front [] o ≡ o
      same (Ok x) = refl
      same (Err e) = refl
