-- The letters of bytes: one for all by which all states go alike.
use Rattle.std.specs.Prelude.{◌≡◌, ℕ, ◌+◌, ◌*◌, ◌<◌, List, length, slice_index}
use Rattle.lexauto_dfa.specs.declared.least.sources.Letter.{Letter}
use Rattle.lexauto_dfa.specs.Letters.{row_of}

-- the letter k has the moves of the n states by the byte b
pub record IsLetterOf (table : List ℕ) (n : ℕ) (letters : List Letter) (b k : ℕ) : Type 0 where
  pub known : k < length letters
  pub len : length (row_of letters k) ≡ n
  pub moves : (x : ℕ) → x < n → slice_index (row_of letters k) x ≡ slice_index table (x * 256 + b)

-- the letters are those of bytes, and each byte below m that is the first of those alike has one
pub record HaveLetters (table firsts : List ℕ) (n : ℕ) (letters : List Letter) (m : ℕ) : Type 0 where
  pub bytes : (k : ℕ) → k < length letters → (b : ℕ) × (b < 256) × IsLetterOf table n letters b k
  pub each_first : (b : ℕ) → b < m → slice_index firsts b ≡ b → (k : ℕ) × IsLetterOf table n letters b k

-- each letter is that of a byte, and each byte has one
pub record AreBytes (table : List ℕ) (n : ℕ) (letters : List Letter) : Type 0 where
  pub bytes : (k : ℕ) → k < length letters → (b : ℕ) × (b < 256) × IsLetterOf table n letters b k
  pub all : (b : ℕ) → b < 256 → (k : ℕ) × IsLetterOf table n letters b k
