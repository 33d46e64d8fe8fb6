-- What is told of a match at a glance, and what its rule does.
use Rattle.std.specs.Prelude.{◌≡◌, ℕ, ◌≤◌, ◌<◌, Bool, true, false, List, [], ◌∷◌, ◌++◌, length, map, take, ◌⊎◌}
use Rattle.lex_semantics.specs.Spec as S
use Rattle.lex_semantics.specs.Machine.{Machine, walk}
use Rattle.lex_machine.specs.declared.glance.Gist.{Gist}
use Rattle.lex_machine.specs.declared.glance.Gist.TheVariants.{Any, NoRule, Silent, Echo, Print, Begin, Several}
use Rattle.lex_machine.specs.Glances.{Gists}
use Rattle.lex_machine.specs.Views.{statement_of}
use Rattle.lexscan_matching.specs.declared.glanced.GlancedMatch.{GlancedMatch}
use Rattle.lexscan_matching.specs.declared.glanced.LongestPart.{LongestPart}
use Rattle.lexscan_window.specs.Acts.{said}

-- the statements that are told
abbrev pub statements_in : Gist → List S.Statement
statements_in Silent = []
statements_in Echo = S.Echo ∷ []
statements_in (Print bytes) = S.Print bytes.now ∷ []
statements_in (Begin c) = S.Begin c ∷ []
statements_in (Several ss) = map statement_of ss.now
statements_in other = []

-- whether anything is told
abbrev pub names_rule : Gist → Bool
names_rule Any = false
names_rule NoRule = false
names_rule other = true

-- the condition after a statement that changes no stack (flex, Actions: BEGIN)
abbrev pub begun : S.Statement → ℕ → ℕ
begun (S.Begin c) old = c
begun other old = old

-- the condition after some of them
abbrev pub all_begun : List S.Statement → ℕ → ℕ
all_begun [] old = old
all_begun (s ∷ ss) old = all_begun ss (begun s old)

-- what they write of a text
abbrev pub all_said : List S.Statement → List ℕ → List ℕ
all_said [] text = []
all_said (s ∷ ss) text = said s text ++ all_said ss text

abbrev pub condition_after : Gist → ℕ → ℕ
condition_after (Begin c) old = c
condition_after (Several ss) old = all_begun (map statement_of ss.now) old
condition_after other old = old

abbrev pub written_by : Gist → List ℕ → List ℕ
written_by Echo text = text
written_by (Print bytes) text = bytes.now
written_by (Several ss) text = all_said (map statement_of ss.now) text
written_by other text = []

-- No rule is accepted after any of the first bytes, from more than so many up to so many of them.
abbrev pub NoneAfter : Machine → ℕ → List ℕ → ℕ → ℕ → Type 0
NoneAfter M first bytes few many = (i : ℕ) → few < i → i ≤ many → M.accepts (walk M first (take i bytes)) ≡ []

-- The longest part of some bytes after which a rule is accepted, and the state after it.
pub record IsLongestPart (M : Machine) (first : ℕ) (bytes : List ℕ) (longest : LongestPart) : Type 0 where
  pub short : longest.keep ≤ length bytes
  pub state_is : longest.state ≡ walk M first (take longest.keep bytes)
  pub none : NoneAfter M first bytes longest.keep (length bytes)

-- What is told of the state after some of the first bytes, after more of which no rule is accepted.
abbrev pub IsNearMatch : Machine → ℕ → List ℕ → ℕ → GlancedMatch → Type 0
IsNearMatch M first bytes count near =
    (1 ≤ near.keep) × (near.keep ≤ count) × NoneAfter M first bytes near.keep count
    × Gists M (walk M first (take near.keep bytes)) near.gist

-- What is told of the match of the first bytes, so many of them: by the state after the longest part of them after
-- which a rule is accepted; or that the default rule writes one byte (POSIX, lex, Rules: unmatched input is copied); or
-- nothing.
abbrev pub IsGlancedMatch : Machine → ℕ → List ℕ → ℕ → GlancedMatch → Type 0
IsGlancedMatch M first bytes count longest =
    IsNearMatch M first bytes count longest
    ⊎ ((longest.keep ≡ 1) × (longest.gist ≡ Echo) × NoneAfter M first bytes 0 count)
    ⊎ (longest.gist ≡ Any)
