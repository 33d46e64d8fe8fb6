-- What is told of a text, in order of place. (This project's.)
use Rattle.std.specs.Prelude.{◌≡◌, ℕ, ◌+◌, ◌-◌, ◌<◌, ◌≤◌, ◌⊎◌, true, List, [], ◌∷◌, ◌++◌, map, length, take, Option, Some, None, slice_get, slice_index_or, unwrap_or}
use Rattle.std.specs.List.Sorted.{IsPermutation}
use Rattle.std.specs.Option.{option_or}
use Rattle.lex_semantics.specs.Limits.{max_file_bytes}
use Rattle.lexre_bytes.specs.declared.refusals.SpecError.{SpecError}
use Rattle.lexre_bytes.specs.declared.refusals.SpecErrorKind.{SpecErrorKind}
use Rattle.lexre_bytes.specs.declared.refusals.SpecErrorKind.TheVariants.{Pattern}
use Rattle.lexauto.specs.declared.error.BuildError.{BuildError}
use Rattle.lexauto_reports.specs.declared.warned.Warning.{Warning}
use Rattle.lexlook_text.specs.DefinitionLines.{lines_from, section_lines}
use Rattle.lexlook_text.specs.Known.{argument_names, condition_names}
use Rattle.lexlook_text.specs.Spots.{spot_of}
use Rattle.lexlook_text.specs.declared.definitions.LineKind.TheVariants.{Declaration}
use Rattle.lexlook_text.specs.declared.scan.Spot.{Spot}
use Rattle.lexlook_check.specs.Homes.{again_spot}
use Rattle.lexlook_check.specs.declared.checking.Checked.{Checked}
use Rattle.lexlook_check.specs.declared.findings.Finding.{Finding}
use Rattle.lexlook_check.specs.declared.findings.What.TheVariants.{Fault, Limit, Noticed, Warned}
use Rattle.lexlook_check.specs.declared.notices.Notice.{Notice}
use Rattle.lexlook_check.specs.declared.weights.Weights.{Weights}

-- the place of a fault in its line, where lex tells one
abbrev pub fault_place : SpecErrorKind → Option ℕ
fault_place (Pattern e) = Some e.at
fault_place other = None

-- the lines of a text, as much of it as lex takes
abbrev pub known_lines : List ℕ → List (ℕ × List ℕ)
known_lines text = lines_from 1 true (take max_file_bytes text)

-- the word of a line with a fault of this kind that is at fault
abbrev pub line_spot : List ℕ → List ℕ → SpecErrorKind → Option (ℕ × List ℕ) → Option Spot
line_spot conditions arguments kind None = None
line_spot conditions arguments kind (Some l) = spot_of conditions arguments kind l

-- the same of a fault, in a text with these lines
abbrev pub word_spot : List (ℕ × List ℕ) → SpecError → Option Spot
word_spot lines e =
    let declared = section_lines Declaration lines in
    line_spot (condition_names declared) (argument_names declared) e.kind (slice_get lines (e.line - 1))

-- the name of a condition that is declared again, or else that word
abbrev pub fault_spot : List (ℕ × List ℕ) → SpecError → Option Spot
fault_spot lines e = option_or (again_spot lines e.line e.kind) (word_spot lines e)

-- a fault, at this word, or else at one byte, where lex tells its place
abbrev pub finding_at : SpecError → Option Spot → Finding
finding_at e None = record { line = e.line; at = fault_place e.kind; size = 1; what = Fault e.kind }
finding_at e (Some s) = record { line = s.line; at = Some s.at; size = s.size; what = Fault e.kind }

-- the same, at the word that is at fault
abbrev pub fault_finding : List (ℕ × List ℕ) → SpecError → Finding
fault_finding lines e = finding_at e (fault_spot lines e)

-- a limit, at line 0, which is the whole, with how many positions there are
abbrev pub limit_findings : Option BuildError → Option Weights → List Finding
limit_findings None weights = []
limit_findings (Some e) weights = record { line = 0; at = None; size = 1; what = Limit e weights } ∷ []

-- a warning of lex
abbrev pub warning_finding : Warning → Finding
warning_finding w = record { line = w.line; at = None; size = 1; what = Warned w.code }

-- what is warned of beside these
abbrev pub notice_finding : Notice → Finding
notice_finding n = record { line = n.line; at = Some n.at; size = n.size; what = Noticed n.kind }

-- all that was found of a text with these lines, as it was found
abbrev pub findings_of : List (ℕ × List ℕ) → Checked → List Finding
findings_of lines c =
    map (fault_finding lines) c.faults.items ++ limit_findings c.limit c.weights ++ c.copies.items
    ++ map warning_finding c.warnings.items ++ map notice_finding c.notices.items

-- it has an earlier line, or the same and no later place; where no place is told it is the first of the line
abbrev pub IsNotBehind : Finding → Finding → Type 0
IsNotBehind f g = (f.line < g.line) ⊎ ((f.line ≡ g.line) × (unwrap_or f.at 0 ≤ unwrap_or g.at 0))

-- what was found, in order of place
pub record AreInOrder (found told : List Finding) : Type 0 where
  pub same : IsPermutation found told
  pub ordered : (k : ℕ) (d : Finding) → k + 1 < length told
      → IsNotBehind (slice_index_or told k d) (slice_index_or told (k + 1) d)
