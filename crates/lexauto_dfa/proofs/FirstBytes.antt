-- The letters of the first bytes by which all states go alike.
use Rattle.std.proofs.Common.{◌≡◌, ℕ, zero, suc, ◌+◌, ◌*◌, ◌<◌, ◌≢◌, List, [], ◌∷◌, ◌++◌, length, length-append, refl, sym, ap, ◌∙◌, inl, inr, arith}
use Rattle.std.specs.Prelude.{slice_index}
use Rattle.lexauto_dfa.proofs.Swapped.{same_or_not}
use Rattle.lexauto_dfa.specs.declared.least.sources.Letter.{Letter}
use Rattle.lexauto_dfa.specs.Letters.{row_of, AreLetters}
use Rattle.lexauto_dfa.specs.Columns.{IsLetterOf, HaveLetters, AreBytes}
use Rattle.lexauto_dfa.specs.Alike.{AreLeads, moves}
use Rattle.lexauto_dfa.proofs.Leads.{lead_heads}

row_front : (letters : List Letter) (l : Letter) (k : ℕ) → k < length letters → row_of (letters ++ l ∷ []) k ≡ row_of letters k
row_front [] l k h = absurd (omega arith)
row_front (x ∷ letters) l zero h = refl
row_front (x ∷ letters) l (suc k) h = row_front letters l k (omega arith)

row_last : (letters : List Letter) (l : Letter) → row_of (letters ++ l ∷ []) (length letters) ≡ l.row.items
row_last [] l = refl
row_last (x ∷ letters) l = row_last letters l

module _ (table firsts : List ℕ) (n : ℕ) (letters : List Letter) (m : ℕ) (have : HaveLetters table firsts n letters m) where
  -- a byte that is not the first of those alike
  pub passed : slice_index firsts m ≢ m → HaveLetters table firsts n letters (m + 1)
  passed d = record {
    bytes = have.bytes;
    each_first = λ b h e. elim (same_or_not b m) [
      | inl q ↦ absurd (d (ap (λ (c : ℕ). slice_index firsts c) (sym q) ∙ e ∙ q))
      | inr o ↦ have.each_first b (omega arith) e
    ];
  }

  module _ (l : Letter) (byte : m < 256) (len : length l.row.items ≡ n) (moves : (x : ℕ) → x < n → slice_index l.row.items x ≡ slice_index table (x * 256 + m)) where
    longer : length (letters ++ l ∷ []) ≡ length letters + 1
    longer = omega (arith, length-append letters (l ∷ []))

    stays : (b k : ℕ) → IsLetterOf table n letters b k → IsLetterOf table n (letters ++ l ∷ []) b k
    stays b k i =
        let e = row_front letters l k i.known in
        record {
          known = (let w = i.known in omega (arith, longer));
          len = ap (λ (xs : List ℕ). length xs) e ∙ i.len;
          moves = λ x h. ap (λ (xs : List ℕ). slice_index xs x) e ∙ i.moves x h;
        }

    newest : IsLetterOf table n (letters ++ l ∷ []) m (length letters)
    newest = record {
      known = omega (arith, longer);
      len = ap (λ (xs : List ℕ). length xs) (row_last letters l) ∙ len;
      moves = λ x h. ap (λ (xs : List ℕ). slice_index xs x) (row_last letters l) ∙ moves x h;
    }

    -- one that is
    pub pushed : HaveLetters table firsts n (letters ++ l ∷ []) (m + 1)
    pushed = record {
      bytes = λ k h. elim (same_or_not k (length letters)) [
        | inl q ↦ rw q (m, byte, newest)
        | inr d ↦ (let (b, g, i) = have.bytes k (omega (arith, longer)) in (b, g, stays b k i))
      ];
      each_first = λ b h e. elim (same_or_not b m) [
        | inl q ↦ rw q (length letters, newest)
        | inr d ↦ (let (k, i) = have.each_first b (omega arith) e in (k, stays b k i))
      ];
    }

-- by either order of the factors
move_at : (table : List ℕ) (x b : ℕ) → moves table x b ≡ slice_index table (x * 256 + b)
move_at table x b = let e : 256 * x + b ≡ x * 256 + b = omega arith in ap (λ (i : ℕ). slice_index table i) e

-- a byte has the letter of the first one that is alike
pub every_byte : (table firsts : List ℕ) (n : ℕ) (letters : List Letter) → AreLeads n (moves table) firsts → HaveLetters table firsts n letters 256 → AreBytes table n letters
every_byte table firsts n letters f have = record {
  bytes = have.bytes;
  all = λ b h.
      let low : slice_index firsts b < 256 = (let l = (f b h).at_most in omega arith) in
      let (k, i) = have.each_first (slice_index firsts b) low (lead_heads n (moves table) firsts f b h).1 in (
        k,
        record {
          known = i.known;
          len = i.len;
          moves = λ x g. i.moves x g ∙ sym (move_at table x (slice_index firsts b)) ∙ (f b h).alike x g ∙ move_at table x b;
        },
      );
}

pub are_letters : (table : List ℕ) (n : ℕ) (letters : List Letter) → AreBytes table n letters → AreLetters letters n
are_letters table n letters are k h = let (b, low, i) = are.bytes k h in i.len
