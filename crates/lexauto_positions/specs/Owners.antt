-- Which rule has a position. (This project's.)
use Rattle.std.specs.Prelude.{◌≡◌, ℕ, suc, ◌<◌, ◌≤◌, List, length, Some, slice_get}
use Rattle.lex_semantics.specs.Spec.{Rule}
use Rattle.lex_semantics.specs.Subsets.{base_of}
use Rattle.lexauto_positions.specs.declared.owners.Owner.{Owner}

-- each position's rule, and where the positions of that rule begin
pub record AreOwners (rules : List Rule) (owners : List Owner) : Type 0 where
  pub number : (p : ℕ) (o : Owner) → slice_get owners p ≡ Some o → o.rule < length rules
  pub base : (p : ℕ) (o : Owner) → slice_get owners p ≡ Some o → o.base ≡ base_of rules 0 o.rule
  pub low : (p : ℕ) (o : Owner) → slice_get owners p ≡ Some o → o.base ≤ p
  pub high : (p : ℕ) (o : Owner) → slice_get owners p ≡ Some o → p < base_of rules 0 (suc o.rule)
