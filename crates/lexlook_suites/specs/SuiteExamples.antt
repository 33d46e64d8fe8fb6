-- Worked examples of suites: where no input goes, the lines of inputs by condition, and of edges. (This project's.)
use Rattle.std.specs.Prelude.{◌≡◌, ℕ, List, [], ◌∷◌, ◌++◌, codes}
use Rattle.lexauto_dfa.specs.declared.dfa.Parts.{Parts}
use Rattle.lexlook_suites.specs.Inputs.{GoesOverEdge, InputComesTo}
use Rattle.lexlook_suites.specs.SuiteLines.{input_line, input_words, left_lines, lines_in, lines_under}
use Rattle.lexlook_suites.specs.declared.inputs.Input.{Input}

abbrev pub names_of_two : List (List ℕ)
names_of_two = codes "INITIAL" ∷ codes "NOTE" ∷ []

-- Without inputs none comes to a state or goes over an edge. A line has the input, the output and then the status. Of
-- two inputs that were made for different conditions each stands under its own. Where no edge is left there is no line.
pub record SuiteExamples : Type 0 where
  pub none_comes : (p : Parts) (q : ℕ) → InputComesTo p [] q → ⊥
  pub none_goes : (p : Parts) (s t : ℕ) → GoesOverEdge p [] s t → ⊥
  pub line : input_words (codes "a\n") (codes "<a>\"") 3 ≡ codes "\"a\\n\" -> \"<a>\\\"\" 3\n"
  pub no_bytes : input_words [] [] 0 ≡ codes "\"\" -> \"\" 0\n"
  pub by_condition : (i j : Input) → i.condition ≡ 0 → j.condition ≡ 1
      → lines_in (i ∷ j ∷ []) 1 ≡ input_line j ++ []
  pub head : lines_under names_of_two [] 1 ≡ codes "NOTE:\n"
  pub none_left : left_lines names_of_two [] 0 ≡ []
  pub some_left : left_lines names_of_two [] 2 ≡ codes "not walked: 2 more\n"
