use Rattle.std.proofs.Common.{◌≡◌, drop, map}
use Rattle.lexlook_text.specs.DeclaredNames.{declared_name_of, first_named}
use Rattle.lexlook_text.proofs.naming.first_named.Given as goal

-- the first is that of those behind
abbrev pub invariant-loop-place : goal.invariant-loop-place
invariant-loop-place l = first_named l.name (map declared_name_of (drop l.place-index l.places)) ≡ first_named l.name (map declared_name_of l.places)
