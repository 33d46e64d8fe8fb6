-- The tokens of a scan over a whole input. (POSIX, lex, Rules in lex and Actions in lex; flex, How the Input Is
-- Matched; the list is this project's.)
use Rattle.std.specs.Prelude.{◌≡◌, ℕ, zero, suc, ◌+◌, ◌≤◌, List, [], ◌∷◌, ◌++◌, length, ◌⊎◌, Option, Some, None, ⊤}
use Rattle.lex_semantics.specs.Text.{IsText, part}
use Rattle.lex_semantics.specs.Rules.{Rules}
use Rattle.lex_semantics.specs.Candidates.{Candidate}
use Rattle.lex_semantics.specs.Acting.{Ending, StackFault, Acting}
use Rattle.lex_semantics.specs.Run.{Place, State, Turns}
use Rattle.lexscan_window.specs.declared.matched.Match.{Match}
use Rattle.lexscan_window.specs.declared.error.RunError.{RunError}
use Rattle.lexscan_window.specs.declared.error.RunError.TheVariants.{OutOfMemory, Stack}
use Rattle.lexscan_matching.specs.Descends.{IsRule}
use Rattle.lexscan.specs.Matches.{CarriesOut}
use Rattle.lexscan.specs.declared.token.Token.{Token}

-- the token that a match is
abbrev pub token_by : Match → ℕ → Token
token_by m condition = record { rule = m.rule; start = m.start; end = m.start + m.length; condition = condition }

abbrev pub tokens_by : Option Match → ℕ → List Token
tokens_by None condition = []
tokens_by (Some m) condition = token_by m condition ∷ []

-- The token of a turn at a place: the rule of the match that is carried out, where its text begins and ends, and the
-- condition. The text is that part of the input.
pub record IsToken (R : Rules) (x : List ℕ) (p : Place) (t : Token) : Type 0 where
  pub taken : Candidate
  pub outcome : Acting
  pub carries : CarriesOut R x p taken outcome
  pub rule_is : IsRule R.count (Some t.rule) taken.rule
  pub start_is : t.start ≡ p.start
  pub end_is : t.end ≡ p.start + length outcome.text
  pub condition_is : t.condition ≡ p.condition
  pub text_is : part x t.start t.end ≡ outcome.text

-- A turn appends its token. At the end of the input there is none.
abbrev pub Appends : Rules → List ℕ → Place → List Token → List Token → Type 0
Appends R x p ts us = ((t : Token) × IsToken R x p t × (us ≡ ts ++ t ∷ [])) ⊎ ((p.at ≡ length x) × (us ≡ ts))

-- the tokens of the first n turns, of which none comes after the end of the scan
abbrev pub TokensOf : Rules → List ℕ → ℕ → List Token → Type 0
TokensOf R x zero us = us ≡ []
TokensOf R x (suc n) us =
    (s : State) × (ts : List Token) × Turns R x n s × (s.ended ≡ None) × TokensOf R x n ts × Appends R x s.place ts us

-- all tokens of a scan, which ends so
pub record Tokenised (R : Rules) (x : List ℕ) (us : List Token) (ending : Ending) : Type 0 where
  pub turns : ℕ
  pub last : State
  pub reached : Turns R x turns last
  pub ends : last.ended ≡ Some ending
  pub tokens : TokensOf R x turns us

-- The tokens of the turns before a refusal: memory ran out, or the next turn finds the stack of conditions full at a
-- push or empty at a pop, which ends the scan. (flex, Start Conditions, has no bound; this one is own.)
pub record Stopped (R : Rules) (x : List ℕ) (us : List Token) (e : RunError) : Type 0 where
  pub turns : ℕ
  pub last : State
  pub reached : Turns R x turns last
  pub going : last.ended ≡ None
  pub tokens : TokensOf R x turns us
  pub why : (e ≡ OutOfMemory) ⊎ ((e ≡ Stack) × (t : State) × Turns R x (suc turns) t × (t.ended ≡ Some StackFault))

-- The tokens lie among so many bytes. Each ends no earlier than it begins, and begins at a place or later, and no
-- earlier than the one before it.
abbrev pub LieIn : ℕ → ℕ → List Token → Type 0
LieIn size from [] = ⊤
LieIn size from (t ∷ ts) = (from ≤ t.start) × (t.start ≤ t.end) × (t.end ≤ size) × LieIn size t.start ts

-- What is known of the tokens by these rules is known of those by the others.
abbrev pub SameTokens : Rules → Rules → Type 0
SameTokens R Q =
    (x : List ℕ) (us : List Token) (ending : Ending) → IsText x → Tokenised R x us ending → Tokenised Q x us ending
