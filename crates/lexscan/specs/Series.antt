-- Several turns in one go, each told at a glance, and the tokens that they tell. (POSIX, lex, Rules in lex: which
-- matches these are. That tokens are kept in few bytes is this project's.)
use Rattle.std.specs.Prelude.{◌≡◌, ℕ, ◌+◌, ◌-◌, ◌^◌, ◌<◌, ◌≤◌, Bool, false, List, [], ◌∷◌, ◌++◌, length, take, drop}
use Rattle.lex_semantics.specs.Demand.{Consistent}
use Rattle.lex_semantics.specs.Machine.{Machine, rules_of_machine}
use Rattle.lexscan_window.specs.declared.matched.MatchedRule.TheVariants.{Numbered}
use Rattle.lexscan_window.specs.declared.state.State.{State}
use Rattle.lexscan_window.specs.declared.state.TextPlace.{TextPlace}
use Rattle.lexscan.specs.Bursts.{Between}
use Rattle.lexscan.specs.Pulls.{TokensTold}
use Rattle.lexscan.specs.Pushes.{MadeTurns}
use Rattle.lexscan.specs.Scans.{ScanInvariant}
use Rattle.lexscan.specs.Tokens.{TokensOf}
use Rattle.lexscan.specs.TurnInvariants.{TurnInvariant}
use Rattle.lexscan.specs.declared.burst.Burst.{Burst}
use Rattle.lexscan.specs.declared.glance.ToldMatch.{ToldMatch}
use Rattle.lexscan.specs.declared.scan.Scan.{Scan}
use Rattle.lexscan.specs.declared.series.BriefToken.{BriefToken}
use Rattle.lexscan.specs.declared.series.Listed.{Listed}
use Rattle.lexscan.specs.declared.token.Token.{Token}

-- the token that begins there
abbrev pub token_from : ℕ → BriefToken → Token
token_from start t =
    record { rule = Numbered t.rule; start = start; end = start + t.length; condition = t.condition }

-- where the last of these ends, of which the first begins there and each other where the one before it ends
abbrev pub end_of : ℕ → List BriefToken → ℕ
end_of start [] = start
end_of start (t ∷ ts) = end_of (start + t.length) ts

-- these tokens, of which the first begins there and each other where the one before it ends
abbrev pub drawn_out : ℕ → List BriefToken → List Token
drawn_out start [] = []
drawn_out start (t ∷ ts) = token_from start t ∷ drawn_out (start + t.length) ts

-- the token of a match that is told, which is made in this condition
abbrev pub IsBrief : ToldMatch → ℕ → BriefToken → Type 0
IsBrief told condition t = t ≡ record { rule = told.rule; length = told.keep; condition = condition }

-- Some turns lead from one state to another, and ask for these bytes. Over every input that is consistent with all that
-- was given, these are their tokens.
pub record TurnsTell (M : Machine) (got : List ℕ) (told : List Token) (old new : State) : Type 0 where
  pub turns : ℕ
  pub out : List ℕ
  pub made : MadeTurns M old new turns got out
  pub tokens : (n : ℕ) (given before : List ℕ) → TurnInvariant M n given before old → (x : List ℕ) (us : List Token)
      → Consistent (given ++ got) new.reading.at_end x → TokensOf (rules_of_machine M) x n us
      → TokensOf (rules_of_machine M) x (turns + n) (us ++ told)

-- Turns over a text, of which the first bytes are held, lead from each state that holds these to each that holds the
-- bytes from `done` up to `asked`. These are their tokens: the first begins where the text does.
abbrev pub SeriesTells : Machine → List ℕ → ℕ → ℕ → Bool → List BriefToken → ℕ → ℕ → ℕ → Bool → Type 0
SeriesTells M text held condition line added done asked condition' line' =
    (old new : State) (taken : ℕ) (stack : List ℕ) → held ≤ taken
    → Between old (take held text) 0 taken condition line stack
    → Between new (drop done (take asked text)) 0 (taken + (asked - held)) condition' line' stack → new.failed ≡ false
    → TurnsTell M (drop held (take asked text)) (drawn_out (taken - held) added) old new

-- A series was made over a text, of which so many bytes were held: its tokens were appended.
pub record SeriesMade (M : Machine) (text : List ℕ) (count : ℕ) (place : TextPlace) (before after : List BriefToken)
    (b : Burst) : Type 0 where
  pub added : List BriefToken
  pub appended : after ≡ before ++ added
  pub size : end_of 0 added ≡ b.done
  pub done : b.done ≤ b.asked
  pub held : count ≤ b.asked
  pub asked : b.asked ≤ length text
  pub condition : b.condition < M.conditions
  pub tells : SeriesTells M text count place.condition place.line_start added b.done b.asked b.condition b.line_start

-- A series was made over the bytes held and the first of those that wait: its tokens were appended.
pub record ListedOver (M : Machine) (waiting : List ℕ) (old new : Scan) (before after : List BriefToken)
    (l : Listed) : Type 0 where
  pub added : List BriefToken
  pub appended : after ≡ before ++ added
  pub small : end_of l.start added < 2 ^ 64
  pub inside : l.got ≤ length waiting
  pub tells : TurnsTell M (take l.got waiting) (drawn_out l.start added) old.state new.state
  pub at_end : new.state.reading.at_end ≡ old.state.reading.at_end
  pub max_reads : new.state.reading.max_reads ≡ old.state.reading.max_reads
  pub ended : new.state.ended ≡ old.state.ended
  pub failed : new.state.failed ≡ old.state.failed
  pub kept : ScanInvariant M new

-- Several tokens were told one after another, and appended: the first begins at `start`. The bytes that their turns
-- asked for wait no more.
pub record TellsSeveral (M : Machine) (finished : Bool) (old new : State) (waiting waiting' : List ℕ)
    (before after : List BriefToken) (start : ℕ) : Type 0 where
  pub added : List BriefToken
  pub appended : after ≡ before ++ added
  pub small : end_of start added < 2 ^ 64
  pub told : (fed : List ℕ) (tokens : List Token) → TokensTold M fed finished tokens old waiting
      → TokensTold M fed finished (tokens ++ drawn_out start added) new waiting'
