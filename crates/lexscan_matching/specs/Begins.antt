-- What a match does whose rule sets a start condition, does yymore then, and no more.
use Rattle.std.specs.Prelude.{◌≡◌, ℕ, ◌≤◌, ◌<◌, List, [], ◌∷◌, None}
use Rattle.lex_semantics.specs.Spec as S
use Rattle.lex_semantics.specs.Candidates.{Candidate}
use Rattle.lex_semantics.specs.Machine.{Machine}
use Rattle.lex_semantics.specs.Trail.{falling}
use Rattle.lexscan_window.specs.declared.state.TextPlace.{TextPlace}
use Rattle.lexscan_matching.specs.declared.begun.BegunMatch.{BegunMatch}
use Rattle.lexscan_matching.specs.Picks.{path_of}
use Rattle.lexscan_matching.specs.Plans.{AreStates}

-- The first of the matches of so many bytes from a place on keeps these, and its rule sets this condition, does yymore
-- then, and no more. (flex, Actions: BEGIN, yymore.)
pub record IsBegun (M : Machine) (p : TextPlace) (w : List ℕ) (count : ℕ) (begun : BegunMatch) : Type 0 where
  pub taken : Candidate
  pub others : List Candidate
  pub in_order : falling M 0 (path_of M p w count) ≡ taken ∷ others
  pub known : taken.rule < M.count
  pub keep_is : taken.keep ≡ begun.keep
  pub does : M.statements taken.rule ≡ S.Begin begun.condition ∷ S.More ∷ []
  pub some : 1 ≤ begun.keep
  pub short : begun.keep ≤ count

-- It is so in each text in which the walk leads to this state.
abbrev pub IsBegunFrom : Machine → ℕ → ℕ → BegunMatch → Type 0
IsBegunFrom M len state begun = (p : TextPlace) (w : List ℕ) → AreStates M p w len state None → IsBegun M p w len begun
