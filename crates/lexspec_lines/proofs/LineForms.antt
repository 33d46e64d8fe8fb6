-- The definition of a name is what it is step by step.
use Rattle.std.proofs.Common.{◌≡◌, ℕ, Bool, true, false, not, ◌&&◌, ◌||◌, if◌then◌else◌, List, Option, Some, None, take, refl}
use Rattle.std.specs.List.{list_any}
use Rattle.lex_semantics.specs.Reading.{◌>>=◌, take_run, after_blanks, is_empty, starts_name, goes_on_name}
use Rattle.lex_semantics.specs.ByteSets.{is_blank}
use Rattle.lexre_bytes.specs.Lexical.{name_at}
use Rattle.lexspec_lines.specs.DefinitionLines.{DefinitionLine, defines, trimmed, is_anchored, definition_in}
use Rattle.lexspec_lines.specs.LineSteps.{definition_from}

pub definition_is : (line : List ℕ) → definition_in line ≡ definition_from line
unfolding definition_in definition_from name_at
definition_is line = go (list_any starts_name (take 1 line))
  where
    run : List ℕ × List ℕ
    run = take_run goes_on_name line

    text : List ℕ
    text = trimmed (after_blanks run.1)

    go : (b : Bool)
        → ((if b then Some (take_run goes_on_name line) else None) >>= λ (name, rest).
        let text = trimmed (after_blanks rest) in
        if◌then◌else◌ {A = Option DefinitionLine} (list_any is_blank (take 1 rest) && not (is_empty text || is_anchored text)) (Some (defines name text)) None)
        ≡ (if◌then◌else◌ {A = Option DefinitionLine} (b && list_any is_blank (take 1 run.1) && not (is_empty text || is_anchored text)) (Some (defines run.0 text)) None)
    go true = refl
    go false = refl
