use Rattle.std.proofs.Common.{◌≡◌, map, take}
use Rattle.lexlook_text.specs.DeclaredNames.{declared_name_of, front_place}
use Rattle.lexlook_text.specs.LineViews.{line_of}
use Rattle.lexlook_text.proofs.naming.defined_names.Given as goal

abbrev pub invariant-loop-line : goal.invariant-loop-line
invariant-loop-line l = map declared_name_of l.found.items ≡ map front_place (map line_of (take l.line-index l.line-items))
