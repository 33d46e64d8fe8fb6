-- The pattern of sequences, as a text and as a tree. Sequences next to each other that begin with the same ranges are
-- one branch up to there, with those that differ in the last range alone as one class. (POSIX, lex, Regular Expressions
-- in lex; escapes as in C. The branches are this project's.)
use Rattle.std.specs.Prelude.{◌≡◌, ◌↔◌, ℕ, ◌+◌, ◌/◌, ◌%◌, ◌==◌, ◌&&◌, nat_lt, if◌then◌else◌, ◌<◌, Bool, true, false, Option, Some, None, List, [], ◌∷◌, ◌++◌, codes, drop, length}
use Rattle.lex_semantics.specs.ByteSets.{ByteSet, range_set, union}
use Rattle.lex_semantics.specs.Tree.{Tree, Set, Cat, Alt, In}
use Rattle.lexre.specs.Definitions.{Definitions}
use Rattle.lexre.specs.Spelling.{Spells}
use Rattle.lexre.specs.declared.options.ReadOptions.{ReadOptions}
use Rattle.lexre_bytes.specs.Symbols.{grouped}
use Rattle.lexlook_letters.specs.Encoding.{InOneOf, IsEncodingOf}
use Rattle.lexlook_letters.specs.Sequences.{byte_ranges}
use Rattle.lexlook_letters.specs.declared.ranges.CodeRange.{CodeRange}
use Rattle.lexlook_letters.specs.declared.sequence.ByteRange.{ByteRange}
use Rattle.lexlook_letters.specs.declared.sequence.Sequence.{Sequence}

-- Branches.

-- the branches of a pattern, those that begin with one range together
pub data Branches : Type 0 where
  none : Branches
  -- one that is a class of some ranges, and the others
  last : (r : ByteRange) (more : List ByteRange) (others : Branches) → Branches
  -- those that begin with a range, by what they go on with, and the others
  through : (r : ByteRange) (inner others : Branches) → Branches

abbrev pub same_range : ByteRange → ByteRange → Bool
same_range a b = a.first == b.first && a.last == b.last

-- Ranges, and the branches behind them. They join the first one if both are one range more, or begin with the same
-- range and go on.
abbrev pub with_ranges : List ByteRange → Branches → Branches
with_ranges [] bs = bs
with_ranges (r ∷ []) (last q qs bs) = last r (q ∷ qs) bs
with_ranges (r ∷ []) bs = last r [] bs
with_ranges (r ∷ s ∷ rs) (through q inner bs) =
    if same_range r q then through r (with_ranges (s ∷ rs) inner) bs
    else through r (with_ranges (s ∷ rs) none) (through q inner bs)
with_ranges (r ∷ s ∷ rs) bs = through r (with_ranges (s ∷ rs) none) bs

-- the branches of sequences, by what these have from the range with this number on
abbrev pub branches_at : ℕ → List Sequence → Branches
branches_at at [] = none
branches_at at (s ∷ ss) = with_ranges (drop at (byte_ranges s)) (branches_at at ss)

abbrev pub no_branch : Branches → Bool
no_branch none = true
no_branch (last r rs bs) = false
no_branch (through r inner bs) = false

abbrev pub is_one : Branches → Bool
is_one none = false
is_one (last r rs bs) = no_branch bs
is_one (through r inner bs) = no_branch bs

-- Which sequences share a branch.

-- the first of some ranges, where others follow
abbrev pub going_through : List ByteRange → Option ByteRange
going_through [] = None
going_through (r ∷ []) = None
going_through (r ∷ s ∷ rs) = Some r

-- both end with one range, or begin with the same range and go on
abbrev pub alike : Option ByteRange → Option ByteRange → Bool
alike None None = true
alike (Some r) (Some q) = same_range r q
alike a b = false

-- from the range with this number on, sequences that stand next to each other are in one branch
abbrev pub join : ℕ → Sequence → Sequence → Bool
join at s t = alike (going_through (drop at (byte_ranges s))) (going_through (drop at (byte_ranges t)))

-- how many of the sequences behind one are in its branch
abbrev pub joined : ℕ → Sequence → List Sequence → ℕ
joined at s [] = 0
joined at s (t ∷ ts) = if join at s t then 1 + joined at t ts else 0

-- it has a range with this number
abbrev pub Reaches : ℕ → Sequence → Type 0
Reaches at s = at < length (byte_ranges s)

-- The tree.

-- the bytes of a set and of ranges
abbrev pub bytes_in : ByteSet → List ByteRange → ByteSet
bytes_in set [] = set
bytes_in set (r ∷ rs) = bytes_in (union set (range_set r.first r.last)) rs

-- one byte out of ranges, of which there is one at least
abbrev pub class_tree : ByteRange → List ByteRange → Tree
class_tree r rs = Set (bytes_in (range_set r.first r.last) rs)

abbrev mutual
  -- the parts of the first branch in order: what goes on as one branch alone has its parts there
  pub parts : Branches → List Tree
  parts none = []
  parts (last r rs bs) = class_tree r rs ∷ []
  parts (through r inner bs) =
      class_tree r [] ∷ (if is_one inner then parts inner else grouped Alt (choices inner) ∷ [])

  -- a series for each branch
  pub choices : Branches → List Tree
  choices none = []
  choices (last r rs bs) = class_tree r rs ∷ choices bs
  choices (through r inner bs) =
      grouped Cat (class_tree r [] ∷ (if is_one inner then parts inner else grouped Alt (choices inner) ∷ []))
      ∷ choices bs

-- one of the branches
abbrev pub letters_tree : List Sequence → Tree
letters_tree ss = grouped Alt (choices (branches_at 0 ss))

-- The text.

-- a hexadecimal digit: `0` to `9`, and `a` to `f`
abbrev pub hex_digit : ℕ → ℕ
hex_digit n = if nat_lt n 10 then 48 + n else 87 + n

-- `\xHH`
abbrev pub byte_escape : ℕ → List ℕ
byte_escape b = codes "\\x" ++ hex_digit (b / 16) ∷ hex_digit (b % 16) ∷ []

-- `\xHH`, or `\xHH-\xHH`
abbrev pub range_text : ByteRange → List ℕ
range_text r =
    if r.first == r.last then byte_escape r.first else byte_escape r.first ++ (codes "-" ++ byte_escape r.last)

-- one after another
abbrev pub ranges_text : List ByteRange → List ℕ
ranges_text [] = []
ranges_text (r ∷ rs) = range_text r ++ ranges_text rs

-- a class of ranges
abbrev pub class_text : List ByteRange → List ℕ
class_text rs = codes "[" ++ (ranges_text rs ++ codes "]")

-- the branches, with bars between, and in parentheses behind a range that several go on from
abbrev pub branches_text : Branches → List ℕ
branches_text none = []
branches_text (last r rs bs) =
    class_text (r ∷ rs) ++ (if no_branch bs then [] else codes "|" ++ branches_text bs)
branches_text (through r inner bs) =
    class_text (r ∷ [])
    ++ ((if is_one inner then branches_text inner else codes "(" ++ (branches_text inner ++ codes ")"))
    ++ (if no_branch bs then [] else codes "|" ++ branches_text bs))

abbrev pub letters_text : List Sequence → List ℕ
letters_text ss = branches_text (branches_at 0 ss)

-- What is spelled.

-- The text spells the tree, whatever is defined and however intervals are read, where letters stand for themselves.
abbrev pub SpellsAlways : List ℕ → Tree → Type 0
SpellsAlways text tree =
    (how : ReadOptions) (definitions : Definitions) → how.fold ≡ false → Spells how definitions text tree

-- it spells a pattern whose words are the encodings of the code points of the ranges
abbrev pub SpellsEncodings : List ℕ → List CodeRange → Type 0
SpellsEncodings text ranges =
    (tree : Tree) × SpellsAlways text tree × ((w : List ℕ) → In tree w ↔ IsEncodingOf (InOneOf ranges) w)
