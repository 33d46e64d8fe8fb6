use Rattle.std.proofs.Common.{◌≡◌, ℕ, List, [], ◌∷◌, ◌++◌, ◌<◌, length}
use Rattle.std.specs.Prelude.{reverse}
use Rattle.lex_semantics.specs.Machine.{Machine}
use Rattle.lexlook_tables.specs.declared.same.pairs.Pair.{Pair}
use Rattle.lexlook_tables.specs.Searching.{HasAt, KeyAt, AreKeyed, AreLinked, IsSuffixOf}
use Rattle.lexlook_tables.proofs.same.differing.text_to.Given as goal

abbrev pub invariant-pairs : goal.invariant-pairs
invariant-pairs l = record {
  within : l.at < length l.pairs;
  suffix : (order : List ℕ) (M N : Machine) (p q : Pair) → AreLinked order M N l.pairs → HasAt l.pairs l.place p → HasAt l.pairs l.at q → IsSuffixOf M N p l.fn.byte q l.text.items;
  key : (keys : List (List ℕ)) (t u : List ℕ) → AreKeyed keys l.pairs → length keys ≡ length l.pairs → KeyAt keys l.place t → KeyAt keys l.at u → u ++ reverse l.text.items ≡ t ++ l.fn.byte ∷ [];
}

abbrev pub decreases-pairs : goal.decreases-pairs
decreases-pairs l = l.at
