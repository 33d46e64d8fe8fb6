-- The words that a rule matches, with its trailing context. (flex, Patterns: `r/s`; flex, How the Input Is Matched.)
use Rattle.std.specs.Prelude.{◌≡◌, ℕ, ◌≤◌, Bool, true, List, [], ◌++◌, length, Option, Some, MatchOption, slice_get, take, drop}
use Rattle.lex_semantics.specs.Tree.{Tree, In}
use Rattle.lex_semantics.specs.Positions.{Matches}
use Rattle.lex_semantics.specs.Spec.{Spec, Rule}
use Rattle.lex_semantics.specs.Active.{active}

-- Rule i is active. The first k bytes of the word, one at least, are the text, and the others are trailing context,
-- where there is any. (flex, Patterns: `r/s`; that the text is not empty is this project's.)
pub record Fits (S : Spec) (c : ℕ) (line_start : Bool) (w : List ℕ) (i k : ℕ) : Type 0 where
  pub rule : Rule
  pub at : slice_get S.rules i ≡ Some rule
  pub is_active : active S c line_start rule ≡ true
  pub not_empty : 1 ≤ k
  pub inside : k ≤ length w
  pub in_head : Matches rule.head (take k w)
  pub in_trail : MatchOption rule.trail (k ≡ length w) (λ t. Matches t (drop k w))

-- Names that proofs have: for what a rule's trailing context asks of the trail, and for a word that is a text and a
-- trail.

abbrev pub InTrail : Option Tree → List ℕ → Type 0
InTrail trail v = MatchOption trail (v ≡ []) (λ t. In t v)

pub record FitsSplit (S : Spec) (c : ℕ) (line_start : Bool) (w : List ℕ) (i k : ℕ) : Type 0 where
  pub rule : Rule
  pub at : slice_get S.rules i ≡ Some rule
  pub is_active : active S c line_start rule ≡ true
  pub text : List ℕ
  pub trail : List ℕ
  pub splits : w ≡ text ++ trail
  pub length_is : k ≡ length text
  pub not_empty : 1 ≤ k
  pub in_head : In rule.head text
  pub in_trail : InTrail rule.trail trail
