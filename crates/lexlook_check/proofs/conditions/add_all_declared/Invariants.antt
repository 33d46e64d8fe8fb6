use Rattle.std.proofs.Common.{◌≡◌, ◌++◌, flat_map, map, take}
use Rattle.lexspec.specs.Views.{spec_of}
use Rattle.lexlook_text.specs.DeclaredNames.{declared_name_of}
use Rattle.lexlook_check.specs.Conditions.{declared_notices}
use Rattle.lexlook_check.proofs.conditions.add_all_declared.Given as goal

abbrev pub invariant-loop-place : goal.invariant-loop-place
invariant-loop-place l =
    l.notices.items ≡ l.fn.notices.items ++ flat_map (declared_notices (spec_of l.spec) l.copied) (map declared_name_of (take l.place-index l.places))
