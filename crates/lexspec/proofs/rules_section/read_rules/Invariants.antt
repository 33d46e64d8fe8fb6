use Rattle.std.proofs.Common.{◌≡◌, ◌+◌, ◌≤◌, List, length}
use Rattle.lexspec_lines.specs.Lines.{newlines}
use Rattle.lexspec.specs.ItemRuns.{IsLine, code_of_item}
use Rattle.lexspec.proofs.RestLaws.{IsReadTo}
use Rattle.lexspec.specs.Keeping.{Keeps}
use Rattle.lexspec.specs.KeptNames.{AreKept}
use Rattle.lexspec_lines.specs.SkippedCode.{Code}
use Rattle.lexspec_lines.specs.Skips.{TellsCode, TellsPieces}
use Rattle.lexspec.proofs.rules_section.read_rules.Given as goal

abbrev pub invariant-items : goal.invariant-items
invariant-items l = record {
  read : IsReadTo l.declarations l.first l.text l.progress l.line l.rest;
  keeps : Keeps l.declarations l.progress;
  known : AreKept l.declarations l.names;
  code : (before : List Code) → TellsCode before l.fn.skipped → TellsPieces before IsLine code_of_item (l.first + newlines l.text) l.text l.rest l.skipped;
  line : l.line + newlines l.rest ≡ l.first + newlines l.text;
  shorter : length l.rest ≤ length l.text;
}

abbrev pub decreases-items : goal.decreases-items
decreases-items l = length l.rest
