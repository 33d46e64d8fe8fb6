-- A definition of a name, step by step, as the code reads it.
use Rattle.std.specs.Prelude.{ℕ, not, ◌&&◌, ◌||◌, if◌then◌else◌, List, Option, Some, None, take}
use Rattle.std.specs.List.{list_any}
use Rattle.lex_semantics.specs.Reading.{take_run, after_blanks, is_empty, starts_name, goes_on_name}
use Rattle.lex_semantics.specs.ByteSets.{is_blank}
use Rattle.lexspec_lines.specs.DefinitionLines.{DefinitionLine, defines, trimmed, is_anchored}

-- the name, blanks, and a substitute, which is not anchored
unfoldable pub definition_from : List ℕ → Option DefinitionLine
definition_from line =
    let (name, rest) = take_run goes_on_name line in
    let text = trimmed (after_blanks rest) in
    if list_any starts_name (take 1 line) && list_any is_blank (take 1 rest) && not (is_empty text || is_anchored text)
    then Some (defines name text) else None
