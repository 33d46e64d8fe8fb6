use Rattle.std.proofs.Common.{◌≡◌, ◌⊎◌, ℕ, Some, length, take}
use Rattle.lex_semantics.specs.Text.{Among}
use Rattle.lexauto_reports.specs.Searching.{place_of}
use Rattle.lexauto_reports.proofs.search.put_first.Given as goal

abbrev pub invariant-loop-state : goal.invariant-loop-state
invariant-loop-state l = record {
  len : length l.places.items ≡ length l.fn.places.items;
  first : (x : ℕ) → Among (take l.state-index l.states) x → place_of l.places.items x ≡ Some 0;
  only : (x j : ℕ) → place_of l.places.items x ≡ Some j → (place_of l.fn.places.items x ≡ Some j) ⊎ ((j ≡ 0) × Among l.states x);
}
