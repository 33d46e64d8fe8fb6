-- What the reader of the definitions section answers.
use Rattle.std.specs.Prelude.{◌≡◌, ℕ, ◌+◌, ◌-◌, ◌<◌, ◌||◌, ◌==◌, Bool, true, false, nat_eq, List, [], ◌∷◌, ◌++◌, length, Some, codes, is_some, if◌then◌else◌}
use Rattle.std.specs.List.{ends_with}
use Rattle.std.specs.FinMap.{get}
use Rattle.lexre.specs.Definitions.{Definitions}
use Rattle.lexre.specs.declared.options.ReadOptions.{ReadOptions}
use Rattle.lexspec_lines.specs.declared.definition.DefinitionFault.{DefinitionFault}
use Rattle.lexspec_lines.specs.declared.definition.DefinitionFault.TheVariants.{BadLine, Unclosed, Anchored}
use Rattle.lexre_bytes.specs.declared.refusals.SpecError.{SpecError}
use Rattle.lexre_bytes.specs.declared.refusals.SpecErrorKind.{SpecErrorKind}
use Rattle.lexre_bytes.specs.declared.refusals.SpecErrorKind.TheVariants as K
use Rattle.lex_semantics.specs.Reading.{begins}
use Rattle.lexspec_lines.specs.DefinitionLines.{DefinitionLine, definition_at, IsUpTo}
use Rattle.lexspec_lines.specs.Lines.{newlines}
use Rattle.lexspec_lines.specs.Declaring.{AreAllowed, Declares}
use Rattle.lexspec_lines.specs.SkippedCode.{code_of_definition}
use Rattle.lexspec_lines.specs.Skips.{IsDefinition, TellsPieces}
use Rattle.lexspec_lines.specs.declared.section.Section.{Section}

-- the lines before the one that begins with `%%`, what they declare, the code among them, and the number of that line
pub record HasSection (how : ReadOptions) (text : List ℕ) (s : Section) : Type 0 where
  pub definitions : List DefinitionLine
  pub lines : IsUpTo definition_at text definitions s.rest.now
  pub separator : begins (codes "%%") s.rest.now ≡ true
  pub declares : Declares how definitions s.declarations
  pub allowed : AreAllowed definitions
  pub line : s.line + newlines s.rest.now ≡ 1 + newlines text
  pub code : TellsPieces [] IsDefinition code_of_definition (1 + newlines text) text s.rest.now s.declarations.skipped

-- the reason that is reported for a fault of a line, where these names are defined before it
abbrev pub reported_kind : Definitions → DefinitionFault → SpecErrorKind
reported_kind defined BadLine = K.BadDefinitionLine
reported_kind defined Unclosed = K.Unclosed
reported_kind defined (Anchored name) = if is_some (get defined name.now) then K.DuplicateName else K.AnchoredDefinition

-- the text is empty, or ends with a newline
abbrev pub ends_line : List ℕ → Bool
ends_line text = length text == 0 || ends_with nat_eq text (codes "\n")

-- The first faulty line: the lines before it declare what they may, and it is no separator. No line stands there, or
-- one that with these declares what it may not, whatever follows. Where the text ends it is the line after the last.
pub record IsFaultyLine (Allowed : List DefinitionLine → Type 0) (text : List ℕ) (e : SpecError) : Type 0 where
  pub definitions : List DefinitionLine
  pub rest : List ℕ
  pub lines : IsUpTo definition_at text definitions rest
  pub allowed : Allowed definitions
  pub off : begins (codes "%%") rest ≡ false
  pub stuck : (d : DefinitionLine) (next : List ℕ) (more : List DefinitionLine) → definition_at rest ≡ Some (d, next)
      → Allowed (definitions ++ d ∷ more) → ⊥
  pub told : 0 < length rest → e.line ≡ 1 + newlines text - newlines rest
  pub ended : length rest ≡ 0 → e.line ≡ 1 + newlines text + (if ends_line text then 0 else 1)
