-- The lists of a machine with so many states.
use Rattle.std.proofs.Common.{◌≡◌, ℕ, zero, suc, ◌+◌, ◌*◌, ◌/◌, ◌%◌, ◌<◌, true, false, List, [], ◌∷◌, ◌++◌, map, length, refl, sym, ap, ◌∙◌, arith}
use Rattle.std.specs.Prelude.{slice_index}
use Rattle.std.specs.List.{flat_map, range_with_len}
use Rattle.std.proofs.lemmas.List.{length-append, get_or_append_left, get_or-append-add, ext_get_or}
use Rattle.std.proofs.lemmas.List.FromFn.{get_or-map-range_with_len, length-map-range_with_len}
use Rattle.std.proofs.lemmas.Bool.{cond-true, lt-ltb}
use Rattle.lex_semantics.specs.Machine.{Machine}
use Rattle.lexauto_dfa.specs.Automata.{bare}
use Rattle.lexauto_dfa.specs.Parts.{conditions, states, start, next}
use Rattle.lexauto_dfa.specs.declared.dfa.Parts.{Parts}
use Rattle.lexauto_dfa.specs.LeastTables.{Automaton}
use Rattle.lexauto_dfa.specs.Least.{by_turns}

abbrev pub starts_in : Machine → List ℕ
starts_in M = flat_map (λ c. M.start c false ∷ M.start c true ∷ []) (range_with_len 0 M.conditions)

abbrev pub rows_in : Machine → ℕ → List ℕ
rows_in M n = flat_map (λ s. map (M.next s) (range_with_len 0 256)) (range_with_len 0 n)

abbrev pub lists_of : Machine → ℕ → Automaton
lists_of M n = record { states = n; starts = starts_in M; table = rows_in M n; lists = map M.accepts (range_with_len 0 n) }

pub starts_by_turns : (f g : ℕ → ℕ) (cs : List ℕ) → flat_map (λ c. f c ∷ g c ∷ []) cs ≡ by_turns (map f cs) (map g cs)
starts_by_turns f g [] = refl
starts_by_turns f g (c ∷ cs) = ap (λ (l : List ℕ). f c ∷ g c ∷ l) (starts_by_turns f g cs)

module _ (f : ℕ → ℕ → ℕ) where
  row : ℕ → List ℕ
  row s = map (f s) (range_with_len 0 256)

  row_len : (s : ℕ) → length (row s) ≡ 256
  unfolding row
  row_len s = length-map-range_with_len (f s) 0 256

  pub rows_len : (a n : ℕ) → length (flat_map (λ s. map (f s) (range_with_len 0 256)) (range_with_len a n)) ≡ 256 * n
  unfolding row
  rows_len a zero = refl
  rows_len a (suc n) =
      let whole = length-append (row a) (flat_map row (range_with_len (a + 1) n)) in
      let first = row_len a in
      let rest = rows_len (a + 1) n in
      omega (arith, whole, first, rest)

  pub row_at : (a n s t b : ℕ) → s < n → b < 256 → a + s ≡ t → slice_index (flat_map (λ s. map (f s) (range_with_len 0 256)) (range_with_len a n)) (s * 256 + b) ≡ f t b
  unfolding row
  row_at a zero s t b h k e = absurd (omega (arith, h))
  row_at a (suc n) zero t b h k e =
      ap (λ (i : ℕ). slice_index (row a ++ flat_map row (range_with_len (a + 1) n)) i) (let g : 0 * 256 + b ≡ b = omega arith in g)
      ∙ get_or_append_left (row a) (flat_map row (range_with_len (a + 1) n)) 0 b (let l = row_len a in omega (arith, l, k))
      ∙ get_or-map-range_with_len (f a) 0 256 b b 0 k (omega arith) ∙ ap (λ (s : ℕ). f s b) (let g : a ≡ t = omega (arith, e) in g)
  row_at a (suc n) (suc s) t b h k e =
      ap (λ (i : ℕ). slice_index (row a ++ flat_map row (range_with_len (a + 1) n)) i) (let l = row_len a in let g : suc s * 256 + b ≡ length (row a) + (s * 256 + b) = omega (arith, l) in g)
      ∙ get_or-append-add (row a) (flat_map row (range_with_len (a + 1) n)) (s * 256 + b) 0
      ∙ row_at (a + 1) n s t b (omega (arith, h)) k (omega (arith, e))

-- a list is that of its elements by number
pub by_number : (xs : List ℕ) (f : ℕ → ℕ) (n : ℕ) → length xs ≡ n → ((i : ℕ) → i < n → f i ≡ slice_index xs i) → map f (range_with_len 0 n) ≡ xs
by_number xs f n len is = ext_get_or 0 (map f (range_with_len 0 n)) xs (length-map-range_with_len f 0 n ∙ sym len)
    (λ i h. let low : i < n = (let l = length-map-range_with_len f 0 n in omega (arith, l, h)) in get_or-map-range_with_len f 0 n i i 0 low (omega arith) ∙ is i low)

module _ (p : Parts) where
  pub starts_are : length p.line_starts.items ≡ length p.starts.items → starts_in (bare p) ≡ by_turns p.starts.items p.line_starts.items
  starts_are lines = starts_by_turns (λ c. start p c false) (λ c. start p c true) (range_with_len 0 (conditions p))
      ∙ ap (λ l. by_turns l (map (λ c. start p c true) (range_with_len 0 (conditions p)))) (by_number p.starts.items (λ c. start p c false) (conditions p) refl (λ i h. refl))
      ∙ ap (λ l. by_turns p.starts.items l) (by_number p.line_starts.items (λ c. start p c true) (conditions p) lines (λ i h. refl))

  pub rows_are : length p.next.items ≡ 256 * states p → rows_in (bare p) (states p) ≡ p.next.items
  rows_are rows = ext_get_or 0 (rows_in (bare p) (states p)) p.next.items (rows_len (next p) 0 (states p) ∙ sym rows) (λ i h. (
      let low : i < 256 * states p = (let l = rows_len (next p) 0 (states p) in omega (arith, l, h)) in
      let byte : i % 256 < 256 = omega arith in
      let e : i ≡ i / 256 * 256 + i % 256 = omega arith in
      ap (λ (j : ℕ). slice_index (rows_in (bare p) (states p)) j) e ∙ row_at (next p) 0 (states p) (i / 256) (i / 256) (i % 256) (omega (arith, low)) byte (omega arith)
      ∙ cond-true _ _ _ (lt-ltb (i % 256) 256 byte) ∙ ap (λ (j : ℕ). slice_index p.next.items j) (sym e)))

  -- where the states are called
  pub calls_are : length p.line_starts.items ≡ length p.starts.items → length p.next.items ≡ 256 * states p
      → starts_in (bare p) ++ rows_in (bare p) (states p) ≡ by_turns p.starts.items p.line_starts.items ++ p.next.items
  calls_are lines rows = ap (λ l. l ++ rows_in (bare p) (states p)) (starts_are lines) ∙ ap (λ l. by_turns p.starts.items p.line_starts.items ++ l) (rows_are rows)
