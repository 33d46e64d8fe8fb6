-- The lines of the definitions section. (POSIX, lex, Definitions in lex; flex, Format of the Input File.)
use Rattle.std.specs.Prelude.{◌≡◌, ℕ, suc, Bool, true, false, not, ◌&&◌, ◌||◌, ◌==◌, if◌then◌else◌, List, [], ◌∷◌, map, filter_map, flat_map, length, nat_eq, ◌-◌, take, drop, Option, Some, None, codes}
use Rattle.std.specs.List.{list_any, list_all, ends_with, suffix_len}
use Rattle.lex_semantics.specs.Reading.{◌>>=◌, Reader, IsReadAs, after_blanks, is_empty, begins, starts_name, goes_on_name}
use Rattle.lex_semantics.specs.ByteSets.{is_digit, same_bytes, is_blank}
use Rattle.lexre_bytes.specs.Lexical.{name_at}
use Rattle.lexspec_lines.specs.Runs.{split_before}
use Rattle.lexspec_lines.specs.Lines.{line_in, line_at, is_all_blank, words, after_block}
use Rattle.lexspec_actions.specs.Comments.{after_star}

pub data DefinitionLine : Type 0 where
  -- a line of code, or a block of it
  code_line : DefinitionLine
  code_block : DefinitionLine
  -- `%s` and `%x`
  declares : (exclusive : Bool) (names : List (List ℕ)) → DefinitionLine
  -- `%option`
  options : List (List ℕ) → DefinitionLine
  -- what has no effect: a line of blanks or nothing, a comment, how yytext is kept, or the size of a table
  ignored : DefinitionLine
  defines : (name text : List ℕ) → DefinitionLine

-- trailing blanks are dropped, except one directly after a backslash
abbrev pub trimmed : List ℕ → List ℕ
trimmed t =
    let kept = take (length t - suffix_len is_blank t) t in
    if ends_with nat_eq kept (codes "\\") then take (suc (length kept)) t else kept

-- begins with `^`, or ends with a `$` not directly after a backslash
abbrev pub is_anchored : List ℕ → Bool
is_anchored t = begins (codes "^") t || (ends_with nat_eq t (codes "$") && not (ends_with nat_eq t (codes "\\$")))

-- a letter or `_`, and then letters, digits, `_` and `-`
abbrev pub is_name : List ℕ → Bool
is_name word = list_any starts_name (take 1 word) && list_all goes_on_name word

-- a definition: the name, blanks, and a substitute, which is not anchored
unfoldable pub definition_in : List ℕ → Option DefinitionLine
definition_in line = name_at line >>= λ (name, rest).
    let text = trimmed (after_blanks rest) in
    if list_any is_blank (take 1 rest) && not (is_empty text || is_anchored text) then Some (defines name text)
    else None

-- `%s` and `%x` have at least one name
abbrev pub declaration : Bool → List (List ℕ) → Option DefinitionLine
declaration exclusive names =
    if length names == 0 || not (list_all is_name names) then None else Some (declares exclusive names)

-- A line that begins with `%`, by its first word: conditions, options, how yytext is kept, or the size of a table.
-- (POSIX, Definitions in lex; flex, Start Conditions, Scanner Options.)
unfoldable pub percent_line : List ℕ → Option DefinitionLine
percent_line line =
    let (word, rest) = split_before is_blank line in
    let names = words rest in
    if list_any (same_bytes word) (words (codes "%s %S %start %Start")) then declaration false names
    else if list_any (same_bytes word) (words (codes "%x %X")) then declaration true names
    else if same_bytes word (codes "%option") then (if length names == 0 then None else Some (options names))
    else if list_any (same_bytes word) (words (codes "%array %pointer"))
    then (if length names == 0 then Some ignored else None)
    else if list_any (same_bytes word) (words (codes "%p %n %a %e %k %o"))
    then (if length names == 1 && list_all (list_all is_digit) names then Some ignored else None)
    else None

-- a line of the definitions section, with what follows that belongs to it; a line that begins with `%%` is none
unfoldable pub definition_at : Reader DefinitionLine
definition_at t = line_at t >>= λ (line, rest).
    if is_all_blank line then Some (ignored, rest)
    else if list_any is_blank (take 1 line) then Some (code_line, rest)
    else if begins (codes "%%") line then None
    else if begins (codes "%{") line then (after_block (suc (length rest)) rest >>= λ after. Some (code_block, after))
    else if begins (codes "/*") line then (after_star (drop 2 t) >>= λ after. Some (ignored, (line_in after).1))
    else if begins (codes "%") line then (percent_line line >>= λ d. Some (d, rest))
    else (definition_in line >>= λ d. Some (d, rest))

-- items up to a rest
abbrev pub IsUpTo : {A : Type 0} → Reader A → List ℕ → List A → List ℕ → Type 0
IsUpTo item_at text xs rest = IsReadAs item_at (λ t. t ≡ rest) text xs

-- What the lines declare.

-- INITIAL, and the conditions of `%s` and `%x` in order of declaration: whether each is exclusive, and its name
abbrev pub all_conditions : List DefinitionLine → List (Bool × List ℕ)
all_conditions ds =
    (false, codes "INITIAL")
    ∷ flat_map (λ d. elim d [ declares exclusive names ↦ map (λ name. (exclusive, name)) names | _ ↦ [] ]) ds

-- the name is one of these
abbrev pub has_name : List (List ℕ) → List ℕ → Bool
has_name names name = list_any (λ n. same_bytes n name) names

-- each name with its substitute
abbrev pub substitutes_of : List DefinitionLine → List (List ℕ × List ℕ)
substitutes_of ds = filter_map (λ d. elim d [ defines name text ↦ Some (name, text) | _ ↦ None ]) ds

-- the words of `%option`
abbrev pub all_options : List DefinitionLine → List (List ℕ)
all_options ds = flat_map (λ d. elim d [ options ws ↦ ws | _ ↦ [] ]) ds

-- the options that are known, most of them without effect (flex, Scanner Options)
abbrev pub known_options : List (List ℕ)
known_options =
    words (codes
    "noyywrap nounput noinput yylineno 8bit batch interactive always-interactive never-interactive case-insensitive stack")
