use Rattle.std.proofs.Common.{◌≡◌, flat_map, map, take}
use Rattle.lexlook_text.specs.DeclaredNames.{declared_in, declared_name_of}
use Rattle.lexlook_text.specs.LineViews.{line_of}
use Rattle.lexlook_text.proofs.naming.declared_conditions.Given as goal

abbrev pub invariant-loop-line : goal.invariant-loop-line
invariant-loop-line l = map declared_name_of l.found.items ≡ flat_map declared_in (map line_of (take l.line-index l.line-items))
