-- Which symbols and states lead to sound trees.
use Rattle.std.specs.Prelude.{◌≤◌, List, [], ◌∷◌, IfSome, ⊤}
use Rattle.lex_semantics.specs.Shapes.{IsSoundTree, AreSoundTrees}
use Rattle.lex_semantics.specs.Tree.{Tree, trees}
use Rattle.lexre.specs.Running.{Frame, frame, State, state}
use Rattle.lexre_bytes.specs.Symbols.{item, sign}
use Rattle.lexre_bytes.specs.Symbols as symbols
use Rattle.lexre.specs.Views.{tree_of}
use Rattle.lexre.specs.declared.symbols.Symbol.{Symbol}

-- its tree is sound, or its bounds are in order, the greater at least 1
abbrev pub IsSoundSymbol : Symbol → Type 0
IsSoundSymbol (Symbol.Item pattern) = IsSoundTree (tree_of pattern)
IsSoundSymbol (Symbol.Name letters) = ⊤
IsSoundSymbol Symbol.Opening = ⊤
IsSoundSymbol Symbol.Closing = ⊤
IsSoundSymbol Symbol.Bar = ⊤
IsSoundSymbol (Symbol.Sign s) = ⊤
IsSoundSymbol (Symbol.Interval least most) = IfSome most (λ n. (least ≤ n) × (1 ≤ n))

-- its tree is sound, or what it makes of a sound tree
abbrev pub LeadsToSound : symbols.Symbol → Type 0
LeadsToSound (item t) = IsSoundTree t
LeadsToSound (sign braces f) = (t : Tree) → IsSoundTree t → IsSoundTree (f t)
LeadsToSound _ = ⊤

-- all its trees are sound
abbrev pub IsSoundFrame : Frame → Type 0
IsSoundFrame (frame done parts last k) =
    AreSoundTrees (trees done) × AreSoundTrees (trees parts) × IfSome last IsSoundTree

abbrev pub AreSoundFrames : List Frame → Type 0
AreSoundFrames [] = ⊤
AreSoundFrames (f ∷ fs) = IsSoundFrame f × AreSoundFrames fs

abbrev pub IsSoundState : State → Type 0
IsSoundState (state here outer d) = IsSoundFrame here × AreSoundFrames outer
