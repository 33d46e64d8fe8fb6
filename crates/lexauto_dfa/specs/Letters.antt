-- The machine of some letters.
use Rattle.std.specs.Prelude.{◌≡◌, ◌↔◌, ℕ, ◌+◌, ◌*◌, ◌<◌, Bool, true, List, [], ◌∷◌, map, length, slice_index, slice_index_or}
use Rattle.lexauto_dfa.specs.declared.least.sources.Letter.{Letter}
use Rattle.lexauto_dfa.specs.Futures.{Machine}
use Rattle.lexauto_dfa.specs.Sources.{Has}

-- the moves by the letter a
abbrev pub row_of : List Letter → ℕ → List ℕ
row_of letters a = slice_index_or (map (λ l. l.row.items) letters) a []

-- states accept alike that have one label
abbrev pub machine : List Letter → List ℕ → Machine
machine letters labels = record {
  states = length labels;
  letters = length letters;
  step = λ x a. slice_index (row_of letters a) x;
  accepts = λ x. slice_index labels x ∷ [];
}

-- each letter has a move for each of n states
abbrev pub AreLetters : List Letter → ℕ → Type 0
AreLetters letters n = (a : ℕ) → a < length letters → length (row_of letters a) ≡ n

-- the truth values say what the list has, of the numbers below n
abbrev pub IsMembership : (ℕ → Bool) → List ℕ → ℕ → Type 0
IsMembership inside xs n = (x : ℕ) → x < n → (inside x ≡ true) ↔ Has xs x

-- the machine of a table with 256 places a state
abbrev pub bytes_machine : List ℕ → List ℕ → Machine
bytes_machine table labels = record {
  states = length labels;
  letters = 256;
  step = λ x a. slice_index table (x * 256 + a);
  accepts = λ x. slice_index labels x ∷ [];
}
