-- Reading the symbols of a pattern from the left, with a stack of what is open. The grammar does not mention it: that
-- it answers as the grammar says is proved.
use Rattle.std.specs.Prelude.{◌≡◌, ℕ, zero, suc, nat_lt, Bool, true, false, if◌then◌else◌, List, [], ◌∷◌, ◌++◌, Option, Some, None}
use Rattle.lex_semantics.specs.Tree.{Tree, Trees, trees, Cat, Alt}
use Rattle.lexre_bytes.specs.Symbols.{Symbol, item, name, opening, closing, bar, sign, Lexer, IsCut}
use Rattle.lexre.specs.Grammar.{SpellsWithin}
use Rattle.lexre.specs.Limits.{max_signs}

-- the tree of a series or of a choice, by its parts, of which the last stands apart
abbrev pub joined : (Trees → Tree) → List Tree → Tree → Tree
joined made [] last = last
joined made (t ∷ ts) last = made (trees (t ∷ ts ++ last ∷ []))

abbrev pub series_tree : List Tree → Tree → Tree
series_tree parts last = joined Cat parts last

abbrev pub choice_tree : List Tree → Tree → Tree
choice_tree ts last = joined Alt ts last

-- How many signs stand on the whole series, and how many on the item that was read last: the next sign applies to that,
-- or else to the whole series.
abbrev pub Signs : Type 0
Signs = ℕ × Option ℕ

abbrev pub on_item : ℕ → ℕ → Signs
on_item before k = (before, Some k)

abbrev pub on_series : ℕ → Signs
on_series k = (k, None)

-- how many stand on what the next sign applies to
abbrev pub how_many : Signs → ℕ
how_many (before, Some k) = k
how_many (k, None) = k

abbrev pub one_more : Signs → Signs
one_more (before, Some k) = on_item before (suc k)
one_more (k, None) = on_series (suc k)

-- how many stand on the whole series
abbrev pub series_count : Signs → ℕ
series_count k = k.0

-- What an interval applies to: the parts before it, itself, and its signs. That is the last part, or under `posix` the
-- series.
abbrev pub parts_before : Bool → List Tree → List Tree
parts_before posix parts = if posix then [] else parts

abbrev pub operand : Bool → List Tree → Tree → Tree
operand posix parts last = if posix then series_tree parts last else last

abbrev pub operand_signs : Bool → Signs → Signs
operand_signs posix k = if posix then on_series (series_count k) else k

-- A pattern as far as it was read: its finished series, and of the series that is being read the parts before the last,
-- the last, if there is one, and its signs.
pub data Frame : Type 0 where
  frame : List Tree → List Tree → Option Tree → Signs → Frame

abbrev pub fresh : Frame
fresh = frame [] [] None (on_item 0 0)

-- the pattern that is being read, those round it, and how many more may be opened
pub data State : Type 0 where
  state : Frame → List Frame → ℕ → State

abbrev pub pushed : Tree → Frame → Frame
pushed t (frame done parts None k) = frame done parts (Some t) (on_item 0 0)
pushed t (frame done parts (Some last) k) = frame done (parts ++ last ∷ []) (Some t) (on_item (series_count k) 0)

abbrev pub push : Tree → State → State
push t (state here outer d) = state (pushed t here) outer d

abbrev pub onto_last : (Tree → Tree) → State → Option State
onto_last f (state (frame done parts None k) outer d) = None
onto_last f (state (frame done parts (Some t) k) outer d) =
    if nat_lt (how_many k) max_signs then Some (state (frame done parts (Some (f t)) (one_more k)) outer d) else None

-- what an interval applies to is the last part
abbrev pub gathered : Bool → State → State
gathered posix (state (frame done parts None k) outer d) = state (frame done parts None k) outer d
gathered posix (state (frame done parts (Some t) k) outer d) =
    state (frame done (parts_before posix parts) (Some (operand posix parts t)) (operand_signs posix k)) outer d

-- what a sign, in braces or not, applies to is the last part
abbrev pub under_sign : Bool → Bool → State → State
under_sign true posix st = gathered posix st
under_sign false posix st = st

abbrev pub opened : State → Option State
opened (state here outer zero) = None
opened (state here outer (suc d)) = Some (state fresh (here ∷ outer) d)

abbrev pub closed : State → Option State
closed (state (frame done parts (Some t) k) (f ∷ fs) d) =
    Some (state (pushed (choice_tree done (series_tree parts t)) f) fs (suc d))
closed (state (frame done parts (Some t) k) [] d) = None
closed (state (frame done parts None k) outer d) = None

abbrev pub parted : State → Option State
parted (state (frame done parts None k) outer d) = None
parted (state (frame done parts (Some t) k) outer d) =
    Some (state (frame (done ++ series_tree parts t ∷ []) [] None (on_item 0 0)) outer d)

abbrev pub finished : State → Option Tree
finished (state (frame done parts (Some t) k) [] d) = Some (choice_tree done (series_tree parts t))
finished (state (frame done parts (Some t) k) (f ∷ fs) d) = None
finished (state (frame done parts None k) outer d) = None

-- the step at a symbol that is no name
abbrev pub step_of : Bool → Symbol → State → Option State
step_of posix (item t) st = Some (push t st)
step_of posix (name n) st = None
step_of posix opening st = opened st
step_of posix closing st = closed st
step_of posix bar st = parted st
step_of posix (sign braces f) st = onto_last f (under_sign braces posix st)

-- the symbol is no name
abbrev pub IsPlain : Symbol → Type 0
IsPlain (item t) = Unit {0}
IsPlain (name n) = ⊥
IsPlain opening = Unit {0}
IsPlain closing = Unit {0}
IsPlain bar = Unit {0}
IsPlain (sign braces f) = Unit {0}

module _ (posix : Bool) (symbol_at : Lexer) (defined : List ℕ → Option (List ℕ)) where
  -- the substitute of the name is a pattern, and this is its tree
  abbrev pub Stands : ℕ → List ℕ → Tree → Type 0
  Stands d n t = (text : List ℕ) × (defined n ≡ Some text) × SpellsWithin posix symbol_at defined d text t

  abbrev pub StepsName : State → List ℕ → State → Type 0
  StepsName (state here outer zero) n after = ⊥
  StepsName (state here outer (suc d)) n after =
      (t : Tree) × Stands d n t × (after ≡ state (pushed t here) outer (suc d))

  abbrev pub Steps : State → Symbol → State → Type 0
  Steps st (item t) after = Some (push t st) ≡ Some after
  Steps st (name n) after = StepsName st n after
  Steps st opening after = opened st ≡ Some after
  Steps st closing after = closed st ≡ Some after
  Steps st bar after = parted st ≡ Some after
  Steps st (sign braces f) after = onto_last f (under_sign braces posix st) ≡ Some after

  -- from the state, reading these symbols to the end gives the tree
  abbrev pub Runs : State → List Symbol → Tree → Type 0
  Runs st [] tree = finished st ≡ Some tree
  Runs st (s ∷ ss) tree = (after : State) × Steps st s after × Runs after ss tree

  -- from the state, reading the text to its end gives the tree
  abbrev pub RunsText : State → List ℕ → Tree → Type 0
  RunsText st text tree = (ss : List Symbol) × IsCut symbol_at text ss × Runs st ss tree
