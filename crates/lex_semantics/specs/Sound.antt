-- What a specification that was read keeps to.
-- (POSIX, lex, Definitions in lex and Actions in lex; flex, Patterns: trailing context.)
use Rattle.std.specs.Prelude.{◌≡◌, ℕ, ◌≤◌, ◌<◌, List, [], ◌∷◌, length, Option, Some, None, IfSome, slice_get, ⊤}
use Rattle.lex_semantics.specs.Limits.{max_fixed_length, max_status, max_literal_bytes}
use Rattle.lex_semantics.specs.Text.{Among, Pairwise}
use Rattle.lex_semantics.specs.Tree.{Tree}
use Rattle.lex_semantics.specs.Positions.{Matches}
use Rattle.lex_semantics.specs.Shapes.{IsSoundTree}
use Rattle.lex_semantics.specs.Spec.{Spec, Rule, Condition, Cut, Whole, Head, Trail}
use Rattle.lex_semantics.specs.Legal.{IsLegal}

-- the tree has a word, each word of it has n bytes, and n is at most 65,535
abbrev pub HasFixed : Tree → ℕ → Type 0
HasFixed t n = ((w : List ℕ) × Matches t w) × ((w : List ℕ) → Matches t w → length w ≡ n) × (n ≤ max_fixed_length)

-- A side of such a fixed length gives the cut: the head if it is one, and else the trailing context. Without trailing
-- context the cut is the whole.
abbrev pub IsCutOf : Tree → Option Tree → Cut → Type 0
IsCutOf head None cut = cut ≡ Whole
IsCutOf head (Some after) (Head m) = HasFixed head m
IsCutOf head (Some after) (Trail n) = ((m : ℕ) → HasFixed head m → ⊥) × HasFixed after n
IsCutOf head (Some after) Whole = ⊥

-- the sides of a rule are sound trees
abbrev pub AreSoundSides : Tree → Option Tree → Type 0
AreSoundSides head trail = IsSoundTree head × IfSome trail IsSoundTree

abbrev pub HasSoundSides : Rule → Type 0
HasSoundSides r = AreSoundSides r.head r.trail

abbrev pub HaveSoundSides : List Rule → Type 0
HaveSoundSides [] = ⊤
HaveSoundSides (r ∷ rs) = HasSoundSides r × HaveSoundSides rs

-- A rule, where there are n conditions. Its list of them is in order.
pub record IsSoundRule (n : ℕ) (r : Rule) : Type 0 where
  pub listed : IfSome r.conditions (λ cs. Pairwise ◌<◌ cs × ((c : ℕ) → Among cs c → c < n))
  pub head : IsSoundTree r.head
  pub trail : IfSome r.trail IsSoundTree
  pub cut : IsCutOf r.head r.trail r.cut
  pub legal : IsLegal n r.statements

pub record IsSound (S : Spec) : Type 0 where
  pub some_condition : 1 ≤ length S.conditions
  pub ends : (c : ℕ) (k : Condition) → slice_get S.conditions c ≡ Some k → k.end.status ≤ max_status
  pub prints : (c : ℕ) (k : Condition) → slice_get S.conditions c ≡ Some k → length k.end.print ≤ max_literal_bytes
  pub rules : (i : ℕ) (r : Rule) → slice_get S.rules i ≡ Some r → IsSoundRule (length S.conditions) r
