use Rattle.std.proofs.Common.{◌≡◌, ℕ, ◌+◌, ◌≤◌, map, drop, Some, None, IfSome}
use Rattle.lex_semantics.specs.Limits.{max_fixed_length}
use Rattle.lex_semantics.specs.Shapes.{AreSoundTrees}
use Rattle.lex_semantics.specs.Tree.{trees}
use Rattle.lexre.specs.Views.{tree_of}
use Rattle.lexspec.specs.Fixed.{JoinHasOne, AllHaveOne}
use Rattle.lexspec.proofs.fixed.+fixed.Given as goal

-- a length of what is left makes one of all, and the other way round
abbrev pub invariant-joined_length-loop-part : goal.invariant-joined_length-loop-part
invariant-joined_length-loop-part l = record {
  sound : AreSoundTrees (trees (map tree_of (drop l.part-index l.parts)));
  few : l.total ≤ max_fixed_length;
  joined : (n : ℕ) → JoinHasOne (trees (map tree_of (drop l.part-index l.parts))) n → JoinHasOne (trees (map tree_of l.parts)) (l.total + n);
  split : (n : ℕ) → JoinHasOne (trees (map tree_of l.parts)) n → (m : ℕ) × JoinHasOne (trees (map tree_of (drop l.part-index l.parts))) m × (l.total + m ≡ n);
}

-- the length so far is that of what is left too, if all have one
abbrev pub invariant-common_length-loop-part : goal.invariant-common_length-loop-part
invariant-common_length-loop-part l = record {
  sound : AreSoundTrees (trees (map tree_of (drop l.part-index l.parts)));
  few : IfSome l.found (λ n. n ≤ max_fixed_length);
  whole : l.found ≡ None → trees (map tree_of (drop l.part-index l.parts)) ≡ trees (map tree_of l.parts);
  all : (n : ℕ) → l.found ≡ Some n → AllHaveOne (trees (map tree_of (drop l.part-index l.parts))) n → AllHaveOne (trees (map tree_of l.parts)) n;
  one : (m n : ℕ) → l.found ≡ Some m → AllHaveOne (trees (map tree_of l.parts)) n → (n ≡ m) × AllHaveOne (trees (map tree_of (drop l.part-index l.parts))) n;
}
