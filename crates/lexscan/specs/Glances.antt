-- One turn over bytes that are there, where its match is told at a glance.
use Rattle.std.specs.Prelude.{◌≡◌, ℕ, ◌+◌, ◌≤◌, Bool, true, false, List, ◌∷◌, ◌++◌, take, drop, Some, Ok}
use Rattle.lex_semantics.specs.Machine.{Machine, walk}
use Rattle.lex_machine.specs.declared.glance.Way.{Way}
use Rattle.lex_machine.specs.declared.glance.Gist.{Gist}
use Rattle.lex_machine.specs.Glances.{Leads, Gists}
use Rattle.lexscan_matching.specs.Glanced.{NoneAfter, condition_after, names_rule}
use Rattle.lexscan_window.specs.Window.{Held, last_of}
use Rattle.lexscan_window.specs.Places.{kept_before}
use Rattle.lexscan_window.specs.declared.matched.MatchedRule.TheVariants.{Numbered}
use Rattle.lexscan_window.specs.declared.state.State.{State}
use Rattle.lexscan.specs.declared.glance.ToldMatch.{ToldMatch}
use Rattle.lexscan.specs.declared.scan.Scan.{Scan}
use Rattle.lexscan.specs.declared.turn.Turn.{Turn}
use Rattle.lexscan.specs.Pulls.{TurnedOver}

-- This is the first rule that a state accepts, and it is told what it does.
abbrev pub TellsRule : Machine → ℕ → Gist → ℕ → Type 0
TellsRule M s gist rule = (names_rule gist ≡ true) × (others : List ℕ) × (M.accepts s ≡ rule ∷ others)

-- The match of the first bytes is told: the longest part of them after which a rule is accepted, the first such rule,
-- and the condition after what it does. (POSIX, lex, Rules in lex: the longest match, then the earliest rule.)
pub record IsTold (M : Machine) (first : ℕ) (bytes : List ℕ) (condition : ℕ) (t : ToldMatch) : Type 0 where
  pub way : Way
  pub leads : Leads M first bytes way
  pub asked : t.asked ≡ way.count
  pub some : 1 ≤ t.keep
  pub short : t.keep ≤ way.count
  pub none : NoneAfter M first bytes t.keep way.count
  pub gist : Gist
  pub gists : Gists M (walk M first (take t.keep bytes)) gist
  pub rule : TellsRule M (walk M first (take t.keep bytes)) gist t.rule
  pub condition_is : t.condition ≡ condition_after gist condition

-- The scan leaves the place of such a match, of so many bytes that were shown: they are taken, and its text is kept
-- before the next place.
pub record LeavesTold (t : ToldMatch) (line : Bool) (got : ℕ) (old new : State) : Type 0 where
  pub held : new.reading.window.bytes ≡ drop t.keep (old.reading.window.bytes ++ take got old.reading.window.ahead)
  pub text : last_of t.keep (kept_before new) ≡ take t.keep
      (old.reading.window.bytes ++ take got old.reading.window.ahead)
  pub taken : new.reading.taken ≡ old.reading.taken + got
  pub at_end : new.reading.at_end ≡ old.reading.at_end
  pub max_reads : new.reading.max_reads ≡ old.reading.max_reads
  pub at : new.place.at ≡ 0
  pub line_start : new.place.line_start ≡ line
  pub condition : new.place.condition ≡ t.condition
  pub stack : new.acting.stack ≡ old.acting.stack
  pub end : new.acting.end ≡ t.keep
  pub matched : new.matched ≡ Some (Numbered t.rule)
  pub ended : new.ended ≡ old.ended
  pub failed : new.failed ≡ old.failed

-- the scan with another window
abbrev pub showing : Scan → Held → Scan
showing s w = record s { state = record s.state { reading = record s.state.reading { window = w } } }

-- The same bytes are held, whatever is shown behind them.
abbrev pub OnlyShows : Scan → Scan → Type 0
OnlyShows old new = (w : Held) × (w.bytes ≡ old.state.reading.window.bytes) × (new ≡ showing old w)

-- The turn was made, and asked for the first of the bytes that wait; or it was not, and the scan stands where it stood.
abbrev pub GlancedOver : Machine → List ℕ → Scan → Scan → Bool → Type 0
GlancedOver M waiting old new true = (left : List ℕ) × TurnedOver M waiting left old new (Ok (Some Turn.Went))
GlancedOver M waiting old new false = OnlyShows old new
