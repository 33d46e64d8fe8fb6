-- How many nodes a state counts, step by step.
use Rattle.std.proofs.Common.{◌≡◌, ℕ, zero, suc, ◌+◌, ◌<◌, ◌≤◌, ◌^◌, Bool, true, false, nat_lt, List, [], ◌∷◌, ◌++◌, Option, Some, None, refl, sym, ap, ◌∙◌, arith}
use Rattle.lex_semantics.specs.Shapes.{nodes, nodes_of}
use Rattle.lex_semantics.specs.Tree.{Tree, trees}
use Rattle.lexre.specs.Counting.{series_nodes, frame_nodes, frames_nodes, state_nodes, extra, adds, AddsOne}
use Rattle.lexre.specs.Outcome.{size_of}
use Rattle.lexre.specs.Running.{series_tree, choice_tree, Signs, on_item, how_many, one_more, operand_signs, Frame, frame, State, state, pushed, onto_last, gathered, finished, step_of, Steps, Runs}
use Rattle.lexre_bytes.specs.Symbols.{Symbol, item, name, opening, closing, bar, sign, Lexer, IsCut}
use Rattle.lexre.proofs.GrammarLaws.{chosen}
use Rattle.lexre.proofs.OneTree.{some_is}

nodes_more : (ts : List Tree) (t : Tree) → nodes_of (trees (ts ++ t ∷ [])) ≡ nodes_of (trees ts) + nodes t
nodes_more [] t = omega arith
nodes_more (u ∷ ts) t = omega (arith, nodes_more ts t)

whole_series : (parts : List Tree) (t : Tree) → nodes (series_tree parts t) ≡ series_nodes parts (Some t)
whole_series [] t = refl
whole_series (p ∷ ps) t = omega (arith, nodes_more ps t)

whole_frame : (done parts : List Tree) (t : Tree) (k : Signs) → nodes (choice_tree done (series_tree parts t)) ≡ frame_nodes (frame done parts (Some t) k)
whole_frame [] parts t k = whole_series parts t
whole_frame (d ∷ []) parts t k = omega (arith, whole_series parts t)
whole_frame (d ∷ e ∷ ds) parts t k = omega (arith, whole_series parts t, nodes_more ds (series_tree parts t))

pushed_nodes : (f : Frame) (t : Tree) → frame_nodes (pushed t f) ≡ frame_nodes f + nodes t + extra f
pushed_nodes (frame [] [] None k) t = omega arith
pushed_nodes (frame [] (p ∷ ps) None k) t = omega arith
pushed_nodes (frame [] [] (Some u) k) t = omega arith
pushed_nodes (frame [] (p ∷ ps) (Some u) k) t = omega (arith, nodes_more ps u)
pushed_nodes (frame (d ∷ []) [] None k) t = omega arith
pushed_nodes (frame (d ∷ []) (p ∷ ps) None k) t = omega arith
pushed_nodes (frame (d ∷ []) [] (Some u) k) t = omega arith
pushed_nodes (frame (d ∷ []) (p ∷ ps) (Some u) k) t = omega (arith, nodes_more ps u)
pushed_nodes (frame (d ∷ e ∷ ds) [] None k) t = omega arith
pushed_nodes (frame (d ∷ e ∷ ds) (p ∷ ps) None k) t = omega arith
pushed_nodes (frame (d ∷ e ∷ ds) [] (Some u) k) t = omega arith
pushed_nodes (frame (d ∷ e ∷ ds) (p ∷ ps) (Some u) k) t = omega (arith, nodes_more ps u)

parted_nodes : (done parts : List Tree) (t : Tree) (k : Signs) → frame_nodes (frame (done ++ series_tree parts t ∷ []) [] None (on_item 0 0)) ≡ frame_nodes (frame done parts (Some t) k)
parted_nodes [] parts t k = omega (arith, whole_series parts t)
parted_nodes (d ∷ []) parts t k = omega (arith, whole_series parts t)
parted_nodes (d ∷ e ∷ ds) parts t k = omega (arith, whole_series parts t, nodes_more ds (series_tree parts t))

series_changed : (parts : List Tree) (t u : Tree) → nodes u ≡ 1 + nodes t → series_nodes parts (Some u) ≡ 1 + series_nodes parts (Some t)
series_changed [] t u h = h
series_changed (p ∷ ps) t u h = omega arith

frame_changed : (done parts : List Tree) (t u : Tree) (j k : Signs) → nodes u ≡ 1 + nodes t → frame_nodes (frame done parts (Some u) j) ≡ 1 + frame_nodes (frame done parts (Some t) k)
frame_changed [] parts t u j k h = series_changed parts t u h
frame_changed (d ∷ []) parts t u j k h = omega (arith, series_changed parts t u h)
frame_changed (d ∷ e ∷ ds) parts t u j k h = omega (arith, series_changed parts t u h)

onto_nodes : (f : Tree → Tree) (st after : State) → ((t : Tree) → nodes (f t) ≡ 1 + nodes t) → onto_last f st ≡ Some after → state_nodes after ≡ state_nodes st + 1
onto_nodes f (state (frame done parts None k) outer d) after h e = cc
onto_nodes f (state (frame done parts (Some t) k) outer d) after h e =
    let both = chosen (nat_lt (how_many k) 64) (state (frame done parts (Some (f t)) (one_more k)) outer d) after e in
    let more : frame_nodes (frame done parts (Some (f t)) (one_more k)) ≡ 1 + frame_nodes (frame done parts (Some t) k) = frame_changed done parts t (f t) (one_more k) k (h t) in
    ap state_nodes (sym both.1) ∙ omega arith

-- a series in one part has as many nodes as its parts
gathered_frame : (done parts : List Tree) (t : Tree) (j k : Signs) → frame_nodes (frame done [] (Some (series_tree parts t)) j) ≡ frame_nodes (frame done parts (Some t) k)
gathered_frame [] parts t j k = whole_series parts t
gathered_frame (d ∷ []) parts t j k = omega (arith, whole_series parts t)
gathered_frame (d ∷ e ∷ ds) parts t j k = omega (arith, whole_series parts t)

gathered_nodes : (posix : Bool) (st : State) → state_nodes (gathered posix st) ≡ state_nodes st
gathered_nodes posix (state (frame done parts None k) outer d) = refl
gathered_nodes true (state (frame done parts (Some t) k) outer d) = omega (arith, gathered_frame done parts t (operand_signs true k) k)
gathered_nodes false (state (frame done parts (Some t) k) outer d) = refl

closed_nodes : (done parts : List Tree) (t : Tree) (k : Signs) (f : Frame) (fs : List Frame)
    → frame_nodes (pushed (choice_tree done (series_tree parts t)) f) + frames_nodes fs ≡ frame_nodes (frame done parts (Some t) k) + frames_nodes (f ∷ fs) + extra f
closed_nodes done parts t k f fs = omega (arith, whole_frame done parts t k, pushed_nodes f (choice_tree done (series_tree parts t)))

-- what a symbol that is no name brings
pub step_grows : (posix : Bool) (s : Symbol) → AddsOne s → (st after : State) → step_of posix s st ≡ Some after → state_nodes st + adds s st ≤ state_nodes after
step_grows posix (item t) more (state here outer d) after e = let h = ap state_nodes (some_is _ _ e) in omega (arith, pushed_nodes here t)
step_grows posix (name n) more st after e = cc
step_grows posix opening more (state here outer zero) after e = cc
step_grows posix opening more (state here outer (suc d)) after e = let h = ap state_nodes (some_is _ _ e) in omega arith
step_grows posix closing more (state (frame done parts (Some t) k) (f ∷ fs) d) after e = let h = ap state_nodes (some_is _ _ e) in omega (arith, closed_nodes done parts t k f fs)
step_grows posix closing more (state (frame done parts (Some t) k) [] d) after e = cc
step_grows posix closing more (state (frame done parts None k) outer d) after e = cc
step_grows posix bar more (state (frame done parts None k) outer d) after e = cc
step_grows posix bar more (state (frame done parts (Some t) k) outer d) after e = let h = ap state_nodes (some_is _ _ e) in omega (arith, parted_nodes done parts t k)
step_grows posix (sign false f) more st after e = omega (arith, onto_nodes f st after more e)
step_grows posix (sign true f) more st after e = omega (arith, onto_nodes f (gathered posix st) after more e, gathered_nodes posix st)

-- where it is few, it is just that
pub step_nodes : (posix : Bool) (s : Symbol) → AddsOne s → (st after : State) → step_of posix s st ≡ Some after → adds s st < 2 ^ 32 → state_nodes after ≡ state_nodes st + adds s st
step_nodes posix (item t) more (state here outer d) after e few = let h = ap state_nodes (some_is _ _ e) in omega (arith, pushed_nodes here t)
step_nodes posix (name n) more st after e few = cc
step_nodes posix opening more (state here outer zero) after e few = cc
step_nodes posix opening more (state here outer (suc d)) after e few = let h = ap state_nodes (some_is _ _ e) in omega arith
step_nodes posix closing more (state (frame done parts (Some t) k) (f ∷ fs) d) after e few = let h = ap state_nodes (some_is _ _ e) in omega (arith, closed_nodes done parts t k f fs)
step_nodes posix closing more (state (frame done parts (Some t) k) [] d) after e few = cc
step_nodes posix closing more (state (frame done parts None k) outer d) after e few = cc
step_nodes posix bar more (state (frame done parts None k) outer d) after e few = cc
step_nodes posix bar more (state (frame done parts (Some t) k) outer d) after e few = let h = ap state_nodes (some_is _ _ e) in omega (arith, parted_nodes done parts t k)
step_nodes posix (sign false f) more st after e few = onto_nodes f st after more e
step_nodes posix (sign true f) more st after e few = omega (arith, onto_nodes f (gathered posix st) after more e, gathered_nodes posix st)

pub finished_nodes : (st : State) (tree : Tree) → finished st ≡ Some tree → state_nodes st ≡ nodes tree
finished_nodes (state (frame done parts None k) outer d) tree e = cc
finished_nodes (state (frame done parts (Some t) k) (f ∷ fs) d) tree e = cc
finished_nodes (state (frame done parts (Some t) k) [] d) tree e = let h = ap nodes (some_is _ _ e) in omega (arith, whole_frame done parts t k)

pub push_grows : (here : Frame) (outer : List Frame) (d : ℕ) (t : Tree) → state_nodes (state here outer d) + nodes t ≤ state_nodes (state (pushed t here) outer d)
push_grows here outer d t = omega (arith, pushed_nodes here t)

module _ (posix : Bool) (symbol_at : Lexer) (defined : List ℕ → Option (List ℕ)) where
  pub steps_grow : (s : Symbol) → AddsOne s → (st after : State) → Steps posix symbol_at defined st s after → state_nodes st + size_of s ≤ state_nodes after
  steps_grow (item t) more (state here outer d) after e = let h = ap state_nodes (some_is _ _ e) in omega (arith, pushed_nodes here t)
  steps_grow (name n) more (state here outer zero) after e = absurd e
  steps_grow (name n) more (state here outer (suc d)) after (t, stands, e) = let h = ap state_nodes e in omega (arith, pushed_nodes here t)
  steps_grow opening more st after e = omega (arith, step_grows posix opening more st after e)
  steps_grow closing more st after e = omega (arith, step_grows posix closing more st after e)
  steps_grow bar more st after e = omega (arith, step_grows posix bar more st after e)
  steps_grow (sign braces f) more st after e = omega (arith, step_grows posix (sign braces f) more st after e)

  module _ (signs : (text rest : List ℕ) (s : Symbol) → symbol_at text ≡ Some (s, rest) → AddsOne s) where
    -- a tree has at least as many nodes as the state that it comes from counts
    pub runs_grow : (ss : List Symbol) (text : List ℕ) (st : State) (tree : Tree) → IsCut symbol_at text ss → Runs posix symbol_at defined st ss tree → state_nodes st ≤ nodes tree
    runs_grow [] text st tree cut e = omega (arith, finished_nodes st tree e)
    runs_grow (s ∷ ss) text st tree (rest, here, cut) (after, step, run) =
        omega (arith, steps_grow s (signs text rest s here) st after step, runs_grow ss rest after tree cut run)
