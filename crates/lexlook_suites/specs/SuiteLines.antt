-- The lines of a suite. (This project's.)
use Rattle.std.specs.Prelude.{ℕ, ◌==◌, List, [], ◌∷◌, ◌++◌, codes, decimal, filter, length, map, slice_index_or}
use Rattle.std.specs.List.{concat, flat_map, range_with_len}
use Rattle.lexlook_specs.specs.Pictures.{in_quotes}
use Rattle.lexlook_suites.specs.CoverLines.{missed_lines, more_line}
use Rattle.lexlook_suites.specs.declared.inputs.Input.{Input}
use Rattle.lexlook_suites.specs.declared.suite_lines.Suite.{Suite}
use Rattle.lexlook_suites.specs.declared.texts.Missed.{Missed}

-- the line of an input: its bytes, those that its scan writes, and the status
abbrev pub status_words : ℕ → List ℕ
status_words status = concat (codes "\" " ∷ decimal status ∷ codes "\n" ∷ [])

abbrev pub input_words : List ℕ → List ℕ → ℕ → List ℕ
input_words text output status = concat (
    codes "\"" ∷ flat_map in_quotes text ∷ codes "\" -> \"" ∷ flat_map in_quotes output ∷ status_words status ∷ [])

abbrev pub input_line : Input → List ℕ
input_line i = input_words i.text.items i.output.items i.status

-- the lines of those that were made for a condition
abbrev pub lines_in : List Input → ℕ → List ℕ
lines_in is c = flat_map input_line (filter (λ i. i.condition == c) is)

-- the same under the name of the condition
abbrev pub lines_under : List (List ℕ) → List Input → ℕ → List ℕ
lines_under names is c = concat (slice_index_or names c [] ∷ codes ":\n" ∷ lines_in is c ∷ [])

-- the lines of edges that no input goes over, and how many more of them there are
abbrev pub left_lines : List (List ℕ) → List Missed → ℕ → List ℕ
left_lines names ms n = missed_lines names ms ++ more_line n

-- all lines
abbrev pub suite_lines : Suite → List ℕ
suite_lines s =
    flat_map (lines_under (map (λ v. v.items) s.names.items) s.inputs.items)
    (range_with_len 0 (length s.names.items))
    ++ s.left.items
