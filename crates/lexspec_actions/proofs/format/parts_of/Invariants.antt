use Rattle.std.proofs.Common.{◌≡◌, false, drop}
use Rattle.lexspec_actions.specs.ActionSteps.{parts_in}
use Rattle.lexspec_actions.specs.Formats.{read_on}
use Rattle.lexspec_actions.specs.Views.{format_view}
use Rattle.lexspec_actions.proofs.format.parts_of.Given as goal

abbrev pub invariant-loop-byte : goal.invariant-loop-byte
invariant-loop-byte l = read_on (format_view l.format) (drop l.byte-index l.text) ≡ parts_in false l.text
