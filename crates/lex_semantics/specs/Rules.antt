-- What a scan asks of a set of rules, whether a specification or a machine tells them.
use Rattle.std.specs.Prelude.{◌≡◌, ℕ, ◌≤◌, ◌<◌, Bool, List, [], ◌∷◌, ◌++◌, length, ◌⊎◌, nat_lt, slice_get, if◌then◌else◌}
use Rattle.lex_semantics.specs.Text.{IsText}
use Rattle.lex_semantics.specs.Spec.{Spec, Statement, Echo, EndAction, statements_at, end_at}
use Rattle.lex_semantics.specs.Fits.{Fits}

pub record Rules : Type 1 where
  -- how many conditions there are, and rules without the default rule
  pub conditions : ℕ
  pub count : ℕ
  -- in this condition, at the start of a line or not, the word fits rule i, and its first k bytes are the text
  pub full : ℕ → Bool → List ℕ → ℕ → ℕ → Type 0
  -- a longer word might fit a rule
  pub live : ℕ → Bool → List ℕ → Type 0
  pub statements : ℕ → List Statement
  pub ending : ℕ → EndAction

-- The word fits rule i and its first k bytes are the text. The default rule, whose number is the count of
-- the others, fits one byte. (POSIX, Actions in lex: input that matches no pattern is copied.)
abbrev pub Full : Rules → ℕ → Bool → List ℕ → ℕ → ℕ → Type 0
Full R c line_start w i k = ((i < R.count) × R.full c line_start w i k) ⊎ ((i ≡ R.count) × (length w ≡ 1) × (k ≡ 1))

-- the default rule echoes
abbrev pub statements_of : Rules → ℕ → List Statement
statements_of R i = if nat_lt i R.count then R.statements i else Echo ∷ []

-- Some word that goes on beyond w fits a rule other than the default.
abbrev pub Live : Spec → ℕ → Bool → List ℕ → Type 0
Live S c line_start w = (u : List ℕ) × IsText u × (1 ≤ length u) × (i : ℕ) × (k : ℕ) × Fits S c line_start (w ++ u) i k

-- the rules of a specification
abbrev pub rules_of : Spec → Rules
rules_of S = record {
  conditions = length S.conditions;
  count = length S.rules;
  full = Fits S;
  live = Live S;
  statements = λ i. statements_at (slice_get S.rules i);
  ending = λ c. end_at (slice_get S.conditions c);
}
