-- How keys lead to one another by the positions of rules. (This project's.)
use Rattle.std.specs.Prelude.{◌≡◌, ℕ, ◌-◌, ◌<◌, ◌≤◌, Bool, false, List, [], length, map, slice_index, slice_index_or}
use Rattle.std.specs.List.{filter}
use Rattle.lex_semantics.specs.ByteSets.{ByteSet, has, empty_set}
use Rattle.lex_semantics.specs.Spec.{Rule}
use Rattle.lexauto.specs.Keys.{Key}
use Rattle.lex_semantics.specs.Text.{flag, listed}
use Rattle.lexauto_positions.specs.RuleFlow.{rules_enter, rules_read}
use Rattle.lexauto.specs.Sets.{marked, marked_by, tagged, starts_in, lasts_in}
use Rattle.lexauto.specs.declared.kinds.Kind.{Kind}

-- the positions that come next after a key, of `count` positions
unfoldable pub followers_in : List Rule → ℕ → Key → Key
followers_in rules count k =
    listed (λ q. rules_enter rules (marked (length rules) (starts_in k)) (marked count (lasts_in k)) q 0 0) 0 count

-- those of them that read the byte, as a key
unfoldable pub reading_in : List Rule → Key → ℕ → Key
reading_in rules followers b = tagged 1 (filter (λ q. rules_read rules b q 0) followers)

-- the marks of the kind at a place, and its first byte
abbrev pub marks_at : List Kind → ℕ → List Bool
marks_at kinds i = slice_index_or (map (λ k. k.marks.items) kinds) i []

abbrev pub first_at : List Kind → ℕ → ℕ
first_at kinds i = slice_index_or (map (λ k. k.first) kinds) i 0

-- The bytes have their kinds' places in order, as far as there are. A kind's marks say which positions read its bytes,
-- and its first byte is one of them.
pub record AreKinds (reads : ℕ → ℕ → Bool) (kinds : List Kind) (places : List ℕ) : Type 0 where
  pub low : (b : ℕ) → b < length places → slice_index places b < length kinds
  pub each : (b q : ℕ) → b < length places → flag (marks_at kinds (slice_index places b)) q ≡ reads b q
  pub first : (b : ℕ) → b < length places → first_at kinds (slice_index places b) ≤ b
  pub early : (i : ℕ) → i < length kinds → first_at kinds i < length places
  pub same : (i q : ℕ) → i < length kinds → flag (marks_at kinds i) q ≡ reads (first_at kinds i) q

-- among these are, for each position, all bytes of which it reads just one, that or the byte before
abbrev pub AreChanges : (ℕ → ℕ → Bool) → List ByteSet → Type 0
AreChanges reads changes =
    (q b : ℕ) → 1 ≤ b → b < 256 → has (slice_index_or changes q empty_set) b ≡ false → reads (b - 1) q ≡ reads b q

-- each position's letter stands among these, at the position's place
pub record AreLetters (all letters : List ByteSet) (places : List ℕ) : Type 0 where
  pub len : length places ≡ length all
  pub low : (q : ℕ) → q < length all → slice_index places q < length letters
  pub same : (q : ℕ) → q < length all
      → slice_index_or letters (slice_index places q) empty_set ≡ slice_index_or all q empty_set

-- the place of a position's letter, and the end of n letters for another number
abbrev pub place_at : List ℕ → ℕ → ℕ → ℕ
place_at places n q = slice_index_or places q n

-- the same of the letters at the positions' places
abbrev pub AreChangesBy : (ℕ → ℕ → Bool) → List ℕ → List ByteSet → Type 0
AreChangesBy reads places changes =
    (q b : ℕ) → 1 ≤ b → b < 256 → has (slice_index_or changes (place_at places (length changes) q) empty_set) b ≡ false
    → reads (b - 1) q ≡ reads b q

-- the same of the positions whose letters' places these are
pub record AreKindsBy (reads : ℕ → ℕ → Bool) (letters : List ℕ) (kinds : List Kind) (places : List ℕ) : Type 0 where
  pub low : (b : ℕ) → b < 256 → slice_index places b < length kinds
  pub each : (b q : ℕ) → b < 256 → marked_by letters (marks_at kinds (slice_index places b)) q ≡ reads b q
  pub first : (b : ℕ) → b < 256 → first_at kinds (slice_index places b) ≤ b
  pub same : (b q : ℕ) → b < 256 → reads (first_at kinds (slice_index places b)) q ≡ reads b q
