-- Sets with a byte, and sound trees.
use Rattle.std.proofs.Common.{◌≡◌, ℕ, zero, suc, ◌<◌, Bool, true, false, not, ◌==◌, nat_lt, List, [], ◌∷◌, ◌++◌, get_or, map, Some, None, ap, subst, arith}
use Rattle.lex_semantics.specs.ByteSets.{has, set_of, single, complement}
use Rattle.lex_semantics.specs.Shapes.{IsSoundTree, AreSoundTrees}
use Rattle.lex_semantics.specs.Tree.{Tree, Set, trees}
use Rattle.lexre_bytes.specs.Lexical.{folded, quoted_tree}
use Rattle.lexre.specs.Running.{series_tree, choice_tree, how_many, one_more, Frame, frame, State, state, pushed, onto_last, gathered, finished, step_of}
use Rattle.lexre.specs.Soundness.{LeadsToSound, IsSoundFrame, IsSoundState}
use Rattle.lexre_bytes.specs.Symbols.{Symbol, item, name, opening, closing, bar, sign}
use Rattle.lexre.proofs.GrammarLaws.{chosen}
use Rattle.lexre.proofs.OneTree.{some_is}
use Rattle.lexre_bytes.proofs.SetLaws.{has-set_of}
use Rattle.lexre_bytes.proofs.MemberLaws.{passing_byte, single_some, folded_some}

pub sound_byte : (fold : Bool) (b : ℕ) → b < 256 → IsSoundTree (Set (folded fold (single b)))
sound_byte fold b h = folded_some fold (single b) (single_some b h)

pub sound_any : IsSoundTree (Set (complement (single 10)))
unfolding complement single
sound_any = passing_byte (λ b. not (has (set_of (λ c. c == 10)) b)) 0 (omega arith) (ap not (has-set_of (λ c. c == 10) 0 (omega arith)))

sound_bytes : (fold : Bool) (bs : List ℕ) → ((k : ℕ) → get_or bs k 0 < 256) → AreSoundTrees (trees (map (λ b. Set (folded fold (single b))) bs))
sound_bytes fold [] h = tt
sound_bytes fold (b ∷ bs) h = (sound_byte fold b (h 0), sound_bytes fold bs (λ k. h (suc k)))

pub sound_quoted : (fold : Bool) (bs : List ℕ) → ((k : ℕ) → get_or bs k 0 < 256) → IsSoundTree (quoted_tree fold bs)
unfolding quoted_tree
sound_quoted fold [] h = tt
sound_quoted fold (b ∷ []) h = sound_byte fold b (h 0)
sound_quoted fold (b ∷ c ∷ bs) h = (sound_bytes fold (b ∷ c ∷ bs) h, λ e. cc)

-- Series, choices and states.

sound_more : (ts : List Tree) (t : Tree) → AreSoundTrees (trees ts) → IsSoundTree t → AreSoundTrees (trees (ts ++ t ∷ []))
sound_more [] t all here = (here, tt)
sound_more (u ∷ ts) t (first, all) here = (first, sound_more ts t all here)

sound_series : (parts : List Tree) (t : Tree) → AreSoundTrees (trees parts) → IsSoundTree t → IsSoundTree (series_tree parts t)
sound_series [] t all here = here
sound_series (p ∷ ps) t all here = (sound_more (p ∷ ps) t all here, λ e. cc)

sound_choice : (done : List Tree) (t : Tree) → AreSoundTrees (trees done) → IsSoundTree t → IsSoundTree (choice_tree done t)
sound_choice [] t all here = here
sound_choice (d ∷ ds) t all here = (sound_more (d ∷ ds) t all here, λ e. cc)

sound_pushed : (f : Frame) (t : Tree) → IsSoundFrame f → IsSoundTree t → IsSoundFrame (pushed t f)
sound_pushed (frame done parts None k) t (all, those, last) here = (all, those, here)
sound_pushed (frame done parts (Some u) k) t (all, those, last) here = (all, sound_more parts u those last, here)

sound_onto : (f : Tree → Tree) (st after : State) → ((t : Tree) → IsSoundTree t → IsSoundTree (f t)) → IsSoundState st → onto_last f st ≡ Some after → IsSoundState after
sound_onto f (state (frame done parts None k) outer d) after h sound e = cc
sound_onto f (state (frame done parts (Some t) k) outer d) after h ((all, those, last), rest) e =
    let both = chosen (nat_lt (how_many k) 64) (state (frame done parts (Some (f t)) (one_more k)) outer d) after e in
    subst IsSoundState both.1 ((all, those, h t last), rest)

sound_gathered : (posix : Bool) (st : State) → IsSoundState st → IsSoundState (gathered posix st)
sound_gathered posix (state (frame done parts None k) outer d) sound = sound
sound_gathered true (state (frame done parts (Some t) k) outer d) ((all, those, last), rest) = ((all, tt, sound_series parts t those last), rest)
sound_gathered false (state (frame done parts (Some t) k) outer d) sound = sound

pub sound_step : (posix : Bool) (s : Symbol) (st after : State) → LeadsToSound s → IsSoundState st → step_of posix s st ≡ Some after → IsSoundState after
sound_step posix (item t) (state here outer d) after h (mine, rest) e = subst IsSoundState (some_is _ _ e) (sound_pushed here t mine h, rest)
sound_step posix (name n) st after h sound e = cc
sound_step posix opening (state here outer zero) after h sound e = cc
sound_step posix opening (state here outer (suc d)) after h (mine, rest) e = subst IsSoundState (some_is _ _ e) ((tt, tt, tt), (mine, rest))
sound_step posix closing (state (frame done parts (Some t) k) (f ∷ fs) d) after h ((all, those, last), (mine, rest)) e =
    subst IsSoundState (some_is _ _ e) (sound_pushed f (choice_tree done (series_tree parts t)) mine (sound_choice done _ all (sound_series parts t those last)), rest)
sound_step posix closing (state (frame done parts (Some t) k) [] d) after h sound e = cc
sound_step posix closing (state (frame done parts None k) outer d) after h sound e = cc
sound_step posix bar (state (frame done parts None k) outer d) after h sound e = cc
sound_step posix bar (state (frame done parts (Some t) k) outer d) after h ((all, those, last), rest) e =
    subst IsSoundState (some_is _ _ e) ((sound_more done (series_tree parts t) all (sound_series parts t those last), tt, tt), rest)
sound_step posix (sign false f) st after h sound e = sound_onto f st after h sound e
sound_step posix (sign true f) st after h sound e = sound_onto f (gathered posix st) after h (sound_gathered posix st sound) e

pub sound_finished : (st : State) (tree : Tree) → IsSoundState st → finished st ≡ Some tree → IsSoundTree tree
sound_finished (state (frame done parts None k) outer d) tree sound e = cc
sound_finished (state (frame done parts (Some t) k) (f ∷ fs) d) tree sound e = cc
sound_finished (state (frame done parts (Some t) k) [] d) tree ((all, those, last), rest) e =
    subst IsSoundTree (some_is _ _ e) (sound_choice done _ all (sound_series parts t those last))
