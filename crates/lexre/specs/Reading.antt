-- What the reader of patterns reads, by how many parentheses and names may be open.
use Rattle.std.specs.Prelude.{ℕ, ◌≡◌, zero, suc, ◌+◌, ◌-◌, ◌≤◌, Bool, false, ◌||◌, ◌&&◌, ◌==◌, List, [], ◌∷◌, Vec}
use Rattle.std.specs.FinMap.{get}
use Rattle.lex_semantics.specs.ByteSets.{is_digit, same_bytes}
use Rattle.lex_semantics.specs.Tree.{Tree}
use Rattle.lex_semantics.specs.Shapes.{IsSoundTree, nodes}
use Rattle.lexre.specs.Definitions.{Definitions}
use Rattle.lexre.specs.Counting.{state_nodes}
use Rattle.lexre.specs.Grammar.{SpellsWithin}
use Rattle.lexre.specs.Soundness.{IsSoundState}
use Rattle.lexre_bytes.specs.Lexical.{symbol_at}
use Rattle.lexre.specs.Running.{State, state, Stands, Steps}
use Rattle.lexre_bytes.specs.Symbols.{Symbol}
use Rattle.lexre.specs.declared.options.ReadOptions.{ReadOptions}

-- the text is a pattern, and this is its tree
abbrev pub SpellsIn : ReadOptions → Definitions → ℕ → List ℕ → Tree → Type 0
SpellsIn how definitions d text t = SpellsWithin how.posix (symbol_at how.fold) (get definitions) d text t

-- the name may be opened, and this is its tree
abbrev pub StandsIn : ReadOptions → Definitions → ℕ → List ℕ → Tree → Type 0
StandsIn how definitions zero n t = ⊥
StandsIn how definitions (suc d) n t = Stands how.posix (symbol_at how.fold) (get definitions) d n t

-- the state after a symbol
abbrev pub StepsIn : ReadOptions → Definitions → State → Symbol → State → Type 0
StepsIn how definitions st s after = Steps how.posix (symbol_at how.fold) (get definitions) st s after

-- the state where so many fewer may be opened
abbrev pub lowered : ℕ → State → State
lowered e (state here outer d) = state here outer (d - e)

-- how many more may be opened
abbrev pub may_open : State → ℕ
may_open (state here outer d) = d

-- A tree of few nodes is read, and it is sound. It is spelled where so many may be opened, but for those to spare.
pub record IsRead (spelled : ℕ → Tree → Type 0) (left room to_spare : ℕ) (tree : Tree) : Type 0 where
  pub found : spelled (left - to_spare) tree
  pub spare : to_spare ≤ left
  pub few : nodes tree ≤ room
  pub sound : IsSoundTree tree

-- A symbol is taken, which brings few nodes: also where as many fewer may be opened as there are to spare.
pub record IsStep (how : ReadOptions) (definitions : Definitions) (s : Symbol) (before after : State)
    (room to_spare brought : ℕ) : Type 0 where
  pub found : StepsIn how definitions before s after
  pub spare : to_spare ≤ may_open after
  pub lower : (e : ℕ) → e ≤ may_open before → e ≤ to_spare
      → StepsIn how definitions (lowered e before) s (lowered e after)
  pub few : brought ≤ room
  pub sound : IsSoundState after
  pub counted : state_nodes after ≡ state_nodes before + brought

-- no tree of so few nodes
abbrev pub NoneWithin : ℕ → (Tree → Type 0) → Type 0
NoneWithin most P = (t : Tree) → P t → nodes t ≤ most → ⊥

-- an opening brace, and a digit
abbrev pub begins_interval : List ℕ → Bool
begins_interval (c ∷ d ∷ t) = c == 123 && is_digit d
begins_interval _ = false

-- the name is one of these
abbrev pub is_among : {Y : Type 0} → List ℕ → List (Vec ℕ Y) → Bool
is_among name [] = false
is_among name (v ∷ vs) = same_bytes v.items name || is_among name vs
