-- Tokens that are asked for one by one, of an input that is fed piece by piece. (POSIX, lex, Rules in lex and Actions
-- in lex: which matches these are; how they are asked for is this project's.)
use Rattle.std.specs.Prelude.{◌≡◌, ℕ, ◌+◌, ◌^◌, ◌<◌, ⊤, Bool, true, false, List, [], ◌∷◌, ◌++◌, length, Option, Some, None, Result, Ok, Err, IfErr, OnErr, ◌⊎◌}
use Rattle.lex_semantics.specs.Text.{IsText, part}
use Rattle.lex_semantics.specs.ByteSets.{bit_of}
use Rattle.lex_semantics.specs.Rules.{Rules}
use Rattle.lex_semantics.specs.Acting.{Ending, Status}
use Rattle.lex_semantics.specs.Demand.{Consistent}
use Rattle.lex_semantics.specs.Machine.{Machine, rules_of_machine}
use Rattle.lexscan_window.specs.declared.state.State.{State}
use Rattle.lexscan_window.specs.declared.error.RunError.{RunError}
use Rattle.lexscan_window.specs.declared.error.RunError.TheVariants.{OutOfMemory, TooManyReads, Stack, Failed}
use Rattle.lexscan.specs.declared.scan.Scan.{Scan}
use Rattle.lexscan.specs.declared.turn.Turn.{Turn}
use Rattle.lexscan.specs.declared.token.Token.{Token}
use Rattle.lexscan.specs.declared.pull.PulledToken.{PulledToken}
use Rattle.lexscan.specs.declared.pull.Pulled.{Pulled}
use Rattle.lexscan.specs.TurnInvariants.{TurnInvariant, NoneAfterEnd}
use Rattle.lexscan.specs.Pushes.{AsksForMore, AttemptsTo}
use Rattle.lexscan.specs.Scans.{ScanInvariant}
use Rattle.lexscan.specs.Tokens.{TokensOf, Tokenised, Stopped}

-- the token that is told, as one of a whole input
abbrev pub whole_token : PulledToken → Token
whole_token t = record { rule = t.rule; start = t.start; end = t.start + t.length; condition = t.condition }

-- These bytes were fed, their end was told or not, and these tokens were told. So many turns asked for the first of the
-- bytes, and the others wait, until the scan ends. Over every input that goes on so, the tokens are those of these
-- turns.
pub record TokensTold (M : Machine) (fed : List ℕ) (told : Bool) (tokens : List Token) (s : State)
    (waiting : List ℕ) : Type 0 where
  pub turns : ℕ
  pub given : List ℕ
  pub left : List ℕ
  pub out : List ℕ
  pub text : IsText fed
  pub invariant : TurnInvariant M turns given out s
  pub all : fed ≡ given ++ left
  pub ending : s.reading.at_end ≡ true → (told ≡ true) × (left ≡ [])
  pub waits : s.ended ≡ None → (left ≡ waiting) × (s.reading.max_reads ≡ length fed + bit_of told)
  pub tokens_are : (x : List ℕ) → Consistent fed told x → TokensOf (rules_of_machine M) x turns tokens

-- Over every input that goes on so, these are all tokens, and the scan ends so.
abbrev pub TokenisedSo : Rules → List ℕ → Bool → List Token → Ending → Type 0
TokenisedSo R fed told tokens ending = (x : List ℕ) → Consistent fed told x → Tokenised R x tokens ending

-- Over every input that goes on so, these are the tokens before a refusal.
abbrev pub StoppedSo : Rules → List ℕ → Bool → List Token → RunError → Type 0
StoppedSo R fed told tokens e = (x : List ℕ) → Consistent fed told x → Stopped R x tokens e

-- The next turn asks for more than all that was fed. The end of that was not told, and the scan has not ended.
abbrev pub WantsPiece : Machine → List ℕ → Bool → List Token → State → List ℕ → Type 0
WantsPiece M fed told tokens s waiting =
    (h : TokensTold M fed told tokens s waiting) × (told ≡ false) × (s.ended ≡ None)
    × AsksForMore (rules_of_machine M) h.turns fed

-- What asking for the next token leaves, with the text of the token that is told: one token more; or more input is
-- wanted; or the scan has ended; or a turn is refused.
abbrev pub AfterPull : Machine → List ℕ → Bool → List Token → State → List ℕ → List ℕ → Result Pulled RunError → Type 0
AfterPull M fed told tokens s waiting text (Ok (Pulled.Token t)) =
    TokensTold M fed told (tokens ++ whole_token t ∷ []) s waiting × (text ≡ part fed t.start (t.start + t.length))
AfterPull M fed told tokens s waiting text (Ok Pulled.More) = WantsPiece M fed told tokens s waiting × (text ≡ [])
AfterPull M fed told tokens s waiting text (Ok (Pulled.Ended status)) =
    TokensTold M fed told tokens s waiting × TokenisedSo (rules_of_machine M) fed told tokens (Status status)
    × (text ≡ [])
AfterPull M fed told tokens s waiting text (Err e) = StoppedSo (rules_of_machine M) fed told tokens e × (text ≡ [])

-- where the text of a token ends is a number of 64 bits
abbrev pub EndsInRange : Pulled → Type 0
EndsInRange (Pulled.Token t) = t.start + t.length < 2 ^ 64
EndsInRange other = ⊤

-- A piece is refused for memory, for too many bytes, or since a turn was refused before.
abbrev pub RefusesPiece : Bool → RunError → Type 0
RefusesPiece failed e = (e ≡ OutOfMemory) ⊎ (e ≡ TooManyReads) ⊎ ((e ≡ Failed) × (failed ≡ true))

-- One turn over the bytes that wait: it was made, given up since it asks for more than these, or refused. It was given
-- the first of them, and was told their end only where none is left.
pub record TurnedOver (M : Machine) (waiting left : List ℕ) (old new : Scan)
    (result : Result (Option Turn) RunError) : Type 0 where
  pub got : List ℕ
  pub put : List ℕ
  pub all : waiting ≡ got ++ left
  pub none : NoneAfterEnd old.state new.state got
  pub ending : old.state.reading.at_end ≡ false → new.state.reading.at_end ≡ true → left ≡ []
  pub attempts : AttemptsTo M old.state new.state got put result
  pub max_reads : new.state.reading.max_reads ≡ old.state.reading.max_reads
  pub refusals : IfErr result (λ e. (e ≡ OutOfMemory) ⊎ (e ≡ Stack))
  pub failed : OnErr result (new.state.failed ≡ true)
  pub kept : ScanInvariant M new

-- What waits after a turn: what it has not asked for, if it was made.
abbrev pub WaitsAfter : List ℕ → List ℕ → List ℕ → Result (Option Turn) RunError → Type 0
WaitsAfter waiting left after (Ok (Some turn)) = after ≡ left
WaitsAfter waiting left after other = after ≡ waiting
