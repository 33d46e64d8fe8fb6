-- How many nodes the tree of a pattern will have at least, by what was read of it.
use Rattle.std.specs.Prelude.{◌≡◌, ℕ, ◌+◌, List, [], ◌∷◌, Option, Some, None, ⊤}
use Rattle.lex_semantics.specs.Shapes.{nodes, nodes_of}
use Rattle.lex_semantics.specs.Tree.{Tree, trees}
use Rattle.lexre_bytes.specs.Symbols.{Symbol, item, name, opening, closing, bar, sign}
use Rattle.lexre.specs.Lengths.{capped}
use Rattle.lexre.specs.Running.{Frame, frame, State, state}

abbrev pub last_nodes : Option Tree → ℕ
last_nodes None = 0
last_nodes (Some t) = nodes t

-- a series has a node of its own from its second part on
abbrev pub series_nodes : List Tree → Option Tree → ℕ
series_nodes [] last = last_nodes last
series_nodes (t ∷ ts) last = 1 + nodes_of (trees (t ∷ ts)) + last_nodes last

-- a choice has a node of its own from the first item of its second series on
abbrev pub frame_nodes : Frame → ℕ
frame_nodes (frame [] parts last k) = series_nodes parts last
frame_nodes (frame (t ∷ []) parts None k) = nodes t + series_nodes parts None
frame_nodes (frame (t ∷ []) parts (Some last) k) = 1 + nodes t + series_nodes parts (Some last)
frame_nodes (frame (t ∷ u ∷ ts) parts last k) = 1 + nodes_of (trees (t ∷ u ∷ ts)) + series_nodes parts last

abbrev pub frames_nodes : List Frame → ℕ
frames_nodes [] = 0
frames_nodes (f ∷ fs) = frame_nodes f + frames_nodes fs

abbrev pub state_nodes : State → ℕ
state_nodes (state here outer d) = frame_nodes here + frames_nodes outer

-- how many nodes the next item brings besides its own: 1 where it is the second of a series, or the first after the
-- first bar
abbrev pub extra : Frame → ℕ
extra (frame done [] (Some t) k) = 1
extra (frame done (p ∷ ps) (Some t) k) = 0
extra (frame [] parts None k) = 0
extra (frame (t ∷ []) parts None k) = 1
extra (frame (t ∷ u ∷ ts) parts None k) = 0

-- a count of nodes, up to a number that is above each limit
abbrev pub capped_nodes : Tree → ℕ
capped_nodes t = capped (nodes t)

-- how many nodes an item brings
abbrev pub item_adds : Tree → State → ℕ
item_adds t (state here outer d) = capped_nodes t + extra here

abbrev pub closing_adds : State → ℕ
closing_adds (state here [] d) = 0
closing_adds (state here (f ∷ fs) d) = extra f

-- how many nodes a symbol that is no name brings
abbrev pub adds : Symbol → State → ℕ
adds (item t) st = item_adds t st
adds (name n) st = 0
adds opening st = 0
adds closing st = closing_adds st
adds bar st = 0
adds (sign braces f) st = 1

-- a sign makes a tree of one node more
abbrev pub AddsOne : Symbol → Type 0
AddsOne (sign braces f) = (t : Tree) → nodes (f t) ≡ 1 + nodes t
AddsOne _ = ⊤
