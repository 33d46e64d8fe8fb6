-- Patterns of sequences, worked by hand: E0 A0 with 80 to 8F and with 91, and E0 A1 80. (This project's.)
use Rattle.std.specs.Prelude.{◌≡◌, [], ◌∷◌, codes}
use Rattle.lex_semantics.specs.Shapes.{nodes}
use Rattle.lex_semantics.specs.Tree.{Alt, Cat, trees}
use Rattle.lexlook_letters.specs.Sequences.{bytes_between}
use Rattle.lexlook_letters.specs.Text.{class_tree, letters_text, letters_tree}
use Rattle.lexlook_letters.specs.declared.sequence.ByteRange.{ByteRange}
use Rattle.lexlook_letters.specs.declared.sequence.Sequence.{Sequence}
use Rattle.lexlook_letters.specs.declared.sequence.Sequence.TheVariants.{One, Two, Three}

abbrev e0 : ByteRange
e0 = bytes_between 0xE0 0xE0

abbrev a0 : ByteRange
a0 = bytes_between 0xA0 0xA0

abbrev several : Sequence
several = Three e0 a0 (bytes_between 0x80 0x8F)

abbrev one : Sequence
one = Three e0 a0 (bytes_between 0x91 0x91)

abbrev other : Sequence
other = Three e0 (bytes_between 0xA1 0xA1) (bytes_between 0x80 0x80)

-- it begins as the others do
abbrev wide : Sequence
wide = Three (bytes_between 0xE0 0xE1) (bytes_between 0xA1 0xA1) (bytes_between 0x80 0x80)

pub record TextExamples : Type 0 where
  -- two branches behind E0, of which the first has two ranges last
  pub group : letters_text (several ∷ one ∷ other ∷ []) ≡ codes "[\\xe0]([\\xa0][\\x80-\\x8f\\x91]|[\\xa1][\\x80])"
  -- the two are a part of the series that E0 begins
  pub tree : letters_tree (one ∷ other ∷ []) ≡ Cat (trees (class_tree e0 [] ∷ Alt (trees (
      Cat (trees (class_tree a0 [] ∷ class_tree (bytes_between 0x91 0x91) [] ∷ []))
      ∷ Cat (trees (class_tree (bytes_between 0xA1 0xA1) [] ∷ class_tree (bytes_between 0x80 0x80) [] ∷ []))
      ∷ [])) ∷ []))
  pub counted : nodes (letters_tree (one ∷ other ∷ [])) ≡ 9
  -- one branch needs no parentheses
  pub alone : letters_text (several ∷ one ∷ []) ≡ codes "[\\xe0][\\xa0][\\x80-\\x8f\\x91]"
  -- what does not stand next to each other has no branch together, nor have sequences of other lengths
  pub apart : letters_text (one ∷ One a0 ∷ other ∷ []) ≡ codes "[\\xe0][\\xa0][\\x91]|[\\xa0]|[\\xe0][\\xa1][\\x80]"
  pub lengths : letters_text (Two e0 a0 ∷ one ∷ []) ≡ codes "[\\xe0]([\\xa0]|[\\xa0][\\x91])"
  -- ranges that begin alike and end otherwise are not the same
  pub ends : letters_text (one ∷ wide ∷ []) ≡ codes "[\\xe0][\\xa0][\\x91]|[\\xe0-\\xe1][\\xa1][\\x80]"
