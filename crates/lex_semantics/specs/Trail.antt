-- The matches of a machine from the longest down, told by the states after each byte.
use Rattle.std.specs.Prelude.{ℕ, suc, List, [], ◌∷◌, ◌++◌, filter_map}
use Rattle.lex_semantics.specs.Candidates.{Candidate}
use Rattle.lex_semantics.specs.Machine.{Machine}
use Rattle.lex_semantics.specs.PlainMachine.{match_of}

-- the states after each byte
abbrev pub trail_from : Machine → ℕ → List ℕ → List ℕ
trail_from M s [] = []
trail_from M s (b ∷ y) = M.next s b ∷ trail_from M (M.next s b) y

-- the matches that end at these states, the longest first; the first state is that after n + 1 bytes
abbrev pub falling : Machine → ℕ → List ℕ → List Candidate
falling M n [] = []
falling M n (s ∷ ss) = falling M (suc n) ss ++ filter_map (match_of M (suc n)) (M.accepts s)
