use Rattle.std.proofs.Common.{◌≡◌, ℕ, Some, length}
use Rattle.std.specs.Prelude.{slice_get}
use Rattle.lexlook_specs.specs.Matches.{matches_in}
use Rattle.lexlook_specs.specs.Overlaps.{IsHome}
use Rattle.lexlook_specs.specs.declared.words.overlapping.Home.{Home}
use Rattle.lexlook_specs.proofs.words.overlapping.homes_of.Given as goal

abbrev pub invariant-loop-condition : goal.invariant-loop-condition
invariant-loop-condition l = record {
  len : length l.homes.items ≡ l.condition;
  each : (c : ℕ) (h : Home) → slice_get l.homes.items c ≡ Some h → IsHome (matches_in l.dfa.parts l.rejects) l.first l.second l.text c h;
}
