use Rattle.std.proofs.Common.{◌≡◌, ℕ, length}
use Rattle.lexauto_reports.specs.Searching.{place_of}
use Rattle.lexlook_specs.specs.Placing.{IsLeastOf, TakesAt}
use Rattle.lexlook_specs.proofs.words.placing.first_places.Given as goal

abbrev pub invariant-loop-state : goal.invariant-loop-state
invariant-loop-state l = record {
  len : length l.firsts.items ≡ length l.rejects;
  least : (i : ℕ) → IsLeastOf (TakesAt l.dfa.parts l.rejects l.places l.state i) (place_of l.firsts.items i);
}
