-- Where the name at the place of a fault is defined or declared. (This project's. POSIX, lex, Definitions in lex: a
-- name in braces stands for its definition.)
use Rattle.std.specs.Prelude.{ℕ, ◌==◌, ◌&&◌, if◌then◌else◌, List, [], ◌∷◌, length, drop, Option, Some, None, codes}
use Rattle.std.specs.List.{concat}
use Rattle.lex_semantics.specs.ByteSets.{same_bytes}
use Rattle.lex_semantics.specs.Reading.{begins, goes_on_name, take_run}
use Rattle.lexre_bytes.specs.declared.refusals.SpecErrorKind.{SpecErrorKind}
use Rattle.lexre_bytes.specs.declared.refusals.SpecErrorKind.TheVariants.{DuplicateCondition, DuplicateName, Pattern}
use Rattle.lexspec_lines.specs.Lines.{before_blank}
use Rattle.lexlook_text.specs.DeclaredNames.{again_in, declared_conditions, defined_names, first_named}
use Rattle.lexlook_text.specs.Known.{front_name}
use Rattle.lexlook_text.specs.declared.scan.Spot.{Spot}
use Rattle.lexlook_check.specs.Places.{file_line_words}
use Rattle.lexlook_check.specs.declared.findings.What.{What}
use Rattle.lexlook_check.specs.declared.findings.What.TheVariants.{Fault}
use Rattle.lexlook_check.specs.declared.places.SourceFile.{SourceFile}

-- the place of a name as that of a word
abbrev pub name_spot : Option (ℕ × ℕ × List ℕ) → Option Spot
name_spot None = None
name_spot (Some p) = Some (record { line = p.0; at = p.1; size = length p.2 })

-- of a fault of this kind at line n the name of the condition that is declared again
abbrev pub again_spot : List (ℕ × List ℕ) → ℕ → SpecErrorKind → Option Spot
again_spot lines n DuplicateCondition =
    let places = declared_conditions lines in name_spot (again_in places n places)
again_spot lines n other = None

-- the name in braces (123 opens them) that begins the text
abbrev pub braced_name : List ℕ → Option (List ℕ)
braced_name [] = None
braced_name (c ∷ t) =
    let (name, rest) = take_run goes_on_name t in if c == 123 && begins (codes "}") rest then Some name else None

-- where the text with these lines defines a name first
abbrev pub defined_home : List (ℕ × List ℕ) → Option (List ℕ) → Option (ℕ × ℕ × List ℕ)
defined_home lines None = None
defined_home lines (Some name) = first_named name (defined_names lines)

-- where it declares a condition first; INITIAL is declared by no line
abbrev pub declared_home : List (ℕ × List ℕ) → List ℕ → Option (ℕ × ℕ × List ℕ)
declared_home lines name =
    if same_bytes name (codes "INITIAL") then None else first_named name (declared_conditions lines)

-- the same of the name that a fault of this kind is about, where this text stands at its place. In a pattern it is that
-- in braces, which stand for the pattern of a definition.
abbrev pub home_of : List (ℕ × List ℕ) → SpecErrorKind → List ℕ → Option (ℕ × ℕ × List ℕ)
home_of lines DuplicateName rest = defined_home lines (Some (front_name rest))
home_of lines DuplicateCondition rest = declared_home lines (before_blank rest).0
home_of lines (Pattern e) rest = defined_home lines (braced_name rest)
home_of lines other rest = None

abbrev pub home_verb : SpecErrorKind → List ℕ
home_verb DuplicateCondition = codes "declared"
home_verb other = codes "defined"

-- what is said of it: its name, and the file and the line
abbrev pub home_words : List SourceFile → List ℕ → Option (ℕ × ℕ × List ℕ) → List ℕ
home_words files verb None = []
home_words files verb (Some p) =
    concat (codes "`" ∷ p.2 ∷ codes "` is " ∷ verb ∷ codes " at " ∷ file_line_words files p.0 ∷ codes "; " ∷ [])

-- of a fault at this place of a line, in a text with these lines
abbrev pub home_told : List SourceFile → List (ℕ × List ℕ) → What → Option ℕ → List ℕ → List ℕ
home_told files lines (Fault kind) (Some at) line =
    home_words files (home_verb kind) (home_of lines kind (drop at line))
home_told files lines what at line = []
