use Rattle.std.proofs.Common.{◌≡◌, ◌+◌, ◌≤◌, [], length}
use Rattle.lexspec_lines.specs.Lines.{newlines}
use Rattle.lexspec_lines.proofs.SectionLaws.{Reading}
use Rattle.lexspec_lines.specs.SkippedCode.{code_of_definition}
use Rattle.lexspec_lines.specs.Skips.{IsDefinition, TellsPieces}
use Rattle.lexspec_lines.proofs.section.read_section.Given as goal

abbrev pub invariant-lines : goal.invariant-lines
invariant-lines l = record {
  read : Reading l.fn.options l.text l.declarations l.rest;
  line : l.line + newlines l.rest ≡ 1 + newlines l.text;
  code : TellsPieces [] IsDefinition code_of_definition (1 + newlines l.text) l.text l.rest l.declarations.skipped;
  counted : 1 ≤ l.line;
  shorter : length l.rest ≤ length l.text;
}

abbrev pub decreases-lines : goal.decreases-lines
decreases-lines l = length l.rest
