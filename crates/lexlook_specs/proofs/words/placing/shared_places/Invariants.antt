use Rattle.std.proofs.Common.{◌≡◌, ℕ, length}
use Rattle.lexauto_reports.specs.Searching.{place_of}
use Rattle.lexlook_specs.specs.Placing.{IsLeastOf, SharesAt}
use Rattle.lexlook_specs.proofs.words.placing.shared_places.Given as goal

abbrev pub invariant-loop-state : goal.invariant-loop-state
invariant-loop-state l = record {
  len : length l.firsts.items ≡ length l.rejects;
  least : (j : ℕ) → IsLeastOf (SharesAt l.dfa.parts l.rejects l.places l.state l.rule j) (place_of l.firsts.items j);
}
