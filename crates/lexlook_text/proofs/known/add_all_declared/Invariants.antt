use Rattle.std.proofs.Common.{◌≡◌, ◌++◌, map, take}
use Rattle.lexlook_text.specs.Known.{all_declared}
use Rattle.lexlook_text.specs.LineViews.{line_of}
use Rattle.lexlook_text.proofs.known.add_all_declared.Given as goal

abbrev pub invariant-loop-line : goal.invariant-loop-line
invariant-loop-line l = l.names.items ≡ l.fn.names.items ++ all_declared l.firsts (map line_of (take l.line-index l.declarations))
