use Rattle.std.proofs.Common.{◌≡◌, ◌++◌, take}
use Rattle.lexlook_suites.specs.SuiteLines.{lines_in}
use Rattle.lexlook_suites.proofs.suite_lines.add_inputs.Given as goal

abbrev pub invariant-loop-input : goal.invariant-loop-input
invariant-loop-input l = l.text.items ≡ l.fn.text.items ++ lines_in (take l.input-index l.inputs) l.condition
