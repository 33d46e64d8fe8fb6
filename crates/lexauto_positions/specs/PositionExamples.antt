-- Worked examples of positions, of readings, and of the count of subsets, by the rule `aa ECHO;` and by single
-- patterns. (This project's.)
use Rattle.std.specs.Prelude.{◌≡◌, false, [], ◌∷◌, Some, None, codes}
use Rattle.lex_semantics.specs.Tree.{Alt, Star, Repeat, trees}
use Rattle.lex_semantics.specs.Spec.{Spec}
use Rattle.lex_semantics.specs.Positions.{positions, Reads}
use Rattle.lex_semantics.specs.Subsets.{all_positions, IsLast, ReadsActive, HasSubsets}
use Rattle.lex_semantics.specs.Examples.{echoing, letter, string}

abbrev pub two_as : Spec
two_as = echoing (string (codes "aa"))

-- one position for each byte that a pattern writes, in each copy that an interval asks for
pub record CountsPositions : Type 0 where
  pub of_rule : all_positions two_as.rules ≡ 2
  pub of_choice : positions (Alt (trees (letter 97 ∷ string (codes "ab") ∷ []))) ≡ 3
  pub of_star : positions (Star (letter 97)) ≡ 1
  pub of_most : positions (Repeat (letter 97) 2 (Some 3)) ≡ 3
  pub of_least : positions (Repeat (letter 97) 2 None) ≡ 2
  pub of_any : positions (Repeat (letter 97) 0 None) ≡ 1

-- each byte of a string is read at its own place, and a repetition without an end goes on in its last copy
pub record ReadsBytes : Type 0 where
  pub string_read : Reads (string (codes "aa")) 4 ((97, 4) ∷ (97, 5) ∷ [])
  pub same_place : Reads (string (codes "aa")) 4 ((97, 4) ∷ (97, 4) ∷ []) → ⊥
  pub star_read : Reads (Star (letter 97)) 0 ((97, 0) ∷ (97, 0) ∷ [])
  pub copies_read : Reads (Repeat (letter 97) 2 None) 0 ((97, 0) ∷ (97, 1) ∷ (97, 1) ∷ [])

-- The place that reads the last byte of a word. Of `aa` there are four states: the dead one, the start, and one for
-- each byte.
pub record CountsSubsets : Type 0 where
  pub last_of_one : IsLast (ReadsActive two_as 0 false) (codes "a") 0
  pub last_of_two : IsLast (ReadsActive two_as 0 false) (codes "aa") 1
  pub other_place : IsLast (ReadsActive two_as 0 false) (codes "a") 1 → ⊥
  pub other_word : IsLast (ReadsActive two_as 0 false) (codes "ab") 1 → ⊥
  pub four : HasSubsets two_as 4
