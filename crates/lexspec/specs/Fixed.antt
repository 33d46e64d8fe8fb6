-- Trees all of whose words have one length, by the least length and the greatest. (This project's.)
use Rattle.std.specs.Prelude.{◌≡◌, ℕ, ◌≤◌, Option, Some, None, ⊤}
use Rattle.lex_semantics.specs.Limits.{max_fixed_length}
use Rattle.lex_semantics.specs.Tree.{Tree, Trees, no_trees, tree}
use Rattle.lexre.specs.Lengths.{least, least_of_each, greatest, greatest_of_each}

-- each word of the tree has n bytes
abbrev pub HasOne : Tree → ℕ → Type 0
HasOne t n = (least t ≡ n) × (greatest t ≡ Some n)

-- each joining of a word of each tree has
abbrev pub JoinHasOne : Trees → ℕ → Type 0
JoinHasOne ts n = (least_of_each ts ≡ n) × (greatest_of_each ts ≡ Some n)

-- each word of each tree has
abbrev pub AllHaveOne : Trees → ℕ → Type 0
AllHaveOne no_trees n = ⊤
AllHaveOne (tree t ts) n = HasOne t n × AllHaveOne ts n

-- the answer is the length, or there is none of at most 65,535 bytes
abbrev pub TellsLength : (ℕ → Type 0) → Option ℕ → Type 0
TellsLength Is (Some n) = Is n × (n ≤ max_fixed_length)
TellsLength Is None = (n : ℕ) → Is n → n ≤ max_fixed_length → ⊥
