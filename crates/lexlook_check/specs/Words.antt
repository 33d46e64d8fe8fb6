-- The word at the place of a fault that has no meaning there, and the nearest one that has. (This project's.)
use Rattle.std.specs.Prelude.{ℕ, ◌==◌, ◌||◌, if◌then◌else◌, List, [], ◌∷◌, ◌++◌, length, drop, Option, Some, None, codes, decimal}
use Rattle.std.specs.List.{concat}
use Rattle.lexre_bytes.specs.declared.error.PatternErrorKind.{PatternErrorKind}
use Rattle.lexre_bytes.specs.declared.error.PatternErrorKind.TheVariants.{UndefinedName, UnknownClassName}
use Rattle.lexre_bytes.specs.declared.refusals.SpecErrorKind.{SpecErrorKind}
use Rattle.lexre_bytes.specs.declared.refusals.SpecErrorKind.TheVariants.{Pattern, UnknownCondition, UnknownStatement, UnsupportedOption}
use Rattle.lexspec_lines.specs.DefinitionLines.{has_name}
use Rattle.lexspec_lines.specs.Lines.{words}
use Rattle.lexlook_text.specs.DefinitionLines.{section_lines}
use Rattle.lexlook_text.specs.Known.{action_names, class_words, condition_names, definition_names, front_name, option_words}
use Rattle.lexlook_text.specs.Names.{nearest}
use Rattle.lexlook_text.specs.declared.definitions.LineKind.TheVariants.{Declaration, Definition}
use Rattle.lexlook_check.specs.declared.findings.What.{What}
use Rattle.lexlook_check.specs.declared.findings.What.TheVariants.{Copied, Fault, Noticed}
use Rattle.lexlook_check.specs.declared.notices.NoticeKind.{NoticeKind}
use Rattle.lexlook_check.specs.declared.notices.NoticeKind.TheVariants.{DefaultRule, NeverEntered, NeverLeft}

-- how many bytes at the place stand before the word, the words that have a meaning there, and what these are
abbrev pub Vocabulary : Type 0
Vocabulary = ℕ × List ℕ × List ℕ

-- of a pattern, in a text with these lines
abbrev pub pattern_vocabulary : List (ℕ × List ℕ) → PatternErrorKind → Option Vocabulary
pattern_vocabulary lines UndefinedName =
    Some (1, definition_names (section_lines Definition lines), codes "definition")
pattern_vocabulary lines UnknownClassName = Some (2, class_words, codes "class")
pattern_vocabulary lines other = None

-- of a fault
abbrev pub vocabulary : List (ℕ × List ℕ) → SpecErrorKind → Option Vocabulary
vocabulary lines UnknownStatement =
    Some (0, action_names (section_lines Declaration lines), codes "word of a statement")
vocabulary lines UnknownCondition =
    Some (0, condition_names (section_lines Declaration lines), codes "condition")
vocabulary lines UnsupportedOption = Some (0, option_words, codes "option that is read")
vocabulary lines (Pattern e) = pattern_vocabulary lines e.kind
vocabulary lines other = None

abbrev pub near_words : Option (List ℕ) → List ℕ
near_words None = []
near_words (Some name) = concat (codes ", the nearest is `" ∷ name ∷ codes "`" ∷ [])

-- what is said of a word that has no meaning there
abbrev pub word_words : Vocabulary → List ℕ → List ℕ
word_words (before, known, noun) word =
    if (length word == 0) || has_name (words known) word then []
    else concat (codes "`" ∷ word ∷ codes "` is no " ∷ noun ∷ near_words (nearest word known) ∷ codes "; " ∷ [])

-- of the word that stands in this text
abbrev pub words_by : Option Vocabulary → List ℕ → List ℕ
words_by None rest = []
words_by (Some v) rest = word_words v (front_name (drop v.0 rest))

-- the name that begins the text
abbrev pub named_words : List ℕ → List ℕ
named_words rest = concat (codes "`" ∷ front_name rest ∷ codes "`: " ∷ [])

abbrev pub copied_words : ℕ → List ℕ
copied_words byte = concat (codes "the first byte that it copies is " ∷ decimal byte ∷ codes "; " ∷ [])

-- what is said of the name that begins the text, where a condition is warned of
abbrev pub subject_words : NoticeKind → List ℕ → List ℕ
subject_words NeverEntered rest = named_words rest
subject_words NeverLeft rest = named_words rest
subject_words (DefaultRule byte) rest = named_words rest ++ copied_words byte
subject_words other rest = []

-- the name of a condition at this place of the line; no line declares INITIAL
abbrev pub named_there : Option ℕ → List ℕ → List ℕ
named_there None line = codes "INITIAL"
named_there (Some at) line = drop at line

-- what is said of the word at this place of the line, where one is told
abbrev pub front_words : List (ℕ × List ℕ) → What → Option ℕ → List ℕ → List ℕ
front_words lines (Fault kind) (Some at) line = words_by (vocabulary lines kind) (drop at line)
front_words lines (Noticed kind) (Some at) line = subject_words kind (drop at line)
front_words lines (Copied byte) at line = subject_words (DefaultRule byte) (named_there at line)
front_words lines what at line = []
