use Rattle.std.proofs.Common.{◌≡◌, drop, map}
use Rattle.lexlook_text.specs.DeclaredNames.{again_in, declared_name_of}
use Rattle.lexlook_text.proofs.naming.declared_again.Given as goal

-- the first is that of those behind
abbrev pub invariant-loop-place : goal.invariant-loop-place
invariant-loop-place l =
    again_in (map declared_name_of l.all) l.line (map declared_name_of (drop l.place-index l.all)) ≡ again_in (map declared_name_of l.all) l.line (map declared_name_of l.all)
