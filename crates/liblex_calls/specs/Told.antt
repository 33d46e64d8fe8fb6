-- What a scan tells that is asked for its tokens one by one. (Which tokens these are is POSIX's and flex's; how they
-- are asked for is own.)
use Rattle.std.specs.Prelude.{◌≡◌, ℕ, ◌+◌, ◌-◌, ◌^◌, ◌≤◌, Bool, true, false, List, [], ◌∷◌, ◌++◌, length, ◌⊎◌}
use Rattle.lex_semantics.specs.Text.{IsText, part}
use Rattle.lex_semantics.specs.Acting.{Status}
use Rattle.lex_semantics.specs.Demand.{Consistent}
use Rattle.lex_semantics.specs.Machine.{Machine, rules_of_machine}
use Rattle.lexscan_window.specs.declared.state.State.{State}
use Rattle.lexscan_window.specs.declared.error.RunError.TheVariants as runs
use Rattle.lexscan.specs.declared.token.Token.{Token}
use Rattle.lexscan.specs.declared.pull.PulledToken.{PulledToken}
use Rattle.lexscan.specs.Pulls.{TokenisedSo, StoppedSo, WantsPiece, whole_token}
use Rattle.lexscan.specs.Scanners.{pull_machine, pull_state, pull_waiting, pull_finished}
use Rattle.liblex_calls.specs.Ahead.{HoldsFed, IsAhead, text_shown}
use Rattle.liblex_calls.specs.Files.{IsMachineOf}
use Rattle.liblex_calls.specs.Lines.{Counted, IsSpotOf}
use Rattle.liblex_calls.specs.Listing.{next_token}
use Rattle.liblex_calls.specs.Rules.{rules_machine}
use Rattle.liblex_calls.specs.Stages.{answer_at, status_in}
use Rattle.liblex_calls.specs.declared.ahead.Ahead.{Ahead}
use Rattle.liblex_calls.specs.declared.answer.Answer.{Answer}
use Rattle.liblex_calls.specs.declared.answer.Answer.TheVariants as answers
use Rattle.liblex_calls.specs.declared.lines.Spot.{Spot}
use Rattle.liblex_calls.specs.declared.stage.Stage.{Stage}
use Rattle.liblex_calls.specs.declared.stage.Stage.TheVariants as stages
use Rattle.liblex_calls.specs.declared.token_scan.TokenScan.{TokenScan}
use Rattle.liblex_calls.specs.declared.token_scan.NextToken.{NextToken}

-- the machine of such a scan
abbrev pub token_machine : TokenScan → Machine
token_machine p = rules_machine (pull_machine p.scanner)

-- What the tokens are that were told, by how far the scan has come: those of its first turns, or all, with the status
-- that the scan ends with, or those before a turn that was refused. After the end and a fault no text is shown.
abbrev pub TokensStand : Machine → Stage → Bool → List ℕ → List Token → List ℕ → State → List ℕ → Ahead → Type 0
TokensStand M stages.Going told fed tokens text s waiting ahead = IsAhead M fed told tokens s waiting ahead
TokensStand M (stages.Ended status) told fed tokens text s waiting ahead =
    TokenisedSo (rules_of_machine M) fed told tokens (Status status) × (text ≡ [])
TokensStand M stages.Stack told fed tokens text s waiting ahead =
    StoppedSo (rules_of_machine M) fed told tokens runs.Stack × (text ≡ [])
TokensStand M stages.OutOfMemory told fed tokens text s waiting ahead =
    StoppedSo (rules_of_machine M) fed told tokens runs.OutOfMemory × (text ≡ [])
TokensStand M stages.TooManyReads told fed tokens text s waiting ahead = ⊥

-- A scan by the rules of this file, which counts lines or not, was fed these bytes, and their end was told or not. It
-- has told these tokens, and shows this text.
pub record Told (file : List ℕ) (lines told : Bool) (fed : List ℕ) (tokens : List Token) (text : List ℕ)
    (p : TokenScan) : Type 0 where
  pub machine : IsMachineOf file (token_machine p)
  pub is_text : IsText fed
  pub finished : pull_finished p.scanner ≡ told
  pub stands : TokensStand (token_machine p) p.stage told fed tokens text (pull_state p.scanner)
      (pull_waiting p.scanner) p.ahead
  pub shows : text_shown p.scanner p.ahead ≡ text
  pub held : HoldsFed fed p.ahead.texts
  pub counts : p.lines.counts ≡ lines
  pub counted : Counted lines fed tokens p.lines

-- A token more was told, and its text is shown. Lines are counted up to it, and not behind it.
pub record HandedOn (file : List ℕ) (lines told : Bool) (fed : List ℕ) (tokens : List Token) (t : PulledToken)
    (p : TokenScan) : Type 0 where
  pub machine : IsMachineOf file (token_machine p)
  pub is_text : IsText fed
  pub finished : pull_finished p.scanner ≡ told
  pub going : p.stage ≡ stages.Going
  pub ahead : IsAhead (token_machine p) fed told (tokens ++ whole_token t ∷ []) (pull_state p.scanner)
      (pull_waiting p.scanner) p.ahead
  pub shows : text_shown p.scanner p.ahead ≡ part fed t.start (t.start + t.length)
  pub held : HoldsFed fed p.ahead.texts
  pub counts : p.lines.counts ≡ lines
  pub counted : Counted lines fed tokens p.lines

-- What feeding a piece leaves: it was fed too, or it counts for nothing.
abbrev pub FeedTells : List ℕ → Bool → Bool → List ℕ → List ℕ → List Token → List ℕ → TokenScan → Answer → Type 0
FeedTells file lines told fed piece tokens text p answers.Done =
    (told ≡ false) × Told file lines false (fed ++ piece) tokens text p
FeedTells file lines told fed piece tokens text p answers.Ended =
    ((told ≡ true) ⊎ (answer_at p.stage ≡ answers.Ended)) × Told file lines told fed tokens text p
FeedTells file lines told fed piece tokens text p answers.Stack =
    (answer_at p.stage ≡ answers.Stack) × Told file lines told fed tokens text p
FeedTells file lines told fed piece tokens text p answers.OutOfMemory = Told file lines told fed tokens text p
FeedTells file lines told fed piece tokens text p answers.TooManyReads =
    (2 ^ 64 - 1 ≤ length fed + length piece) × Told file lines told fed tokens text p
FeedTells file lines told fed piece tokens text p other = ⊥

-- What asking for a token leaves: one token more, whose text is shown, with where it stands in every input that goes
-- on so; or the next match asks for more than was fed; or the scan has ended or stopped, as it stands from then on.
abbrev pub NextTells : List ℕ → Bool → Bool → List ℕ → List Token → TokenScan → NextToken → NextToken → ℕ → Answer
    → Type 0
NextTells file lines told fed tokens p old new status answers.Done =
    (t : PulledToken) × (spot : Spot) × (new ≡ next_token t spot) × (status ≡ 0) × (p.stage ≡ stages.Going)
    × ((x : List ℕ) → Consistent fed told x → IsSpotOf lines x t.start spot)
    × Told file lines told fed (tokens ++ whole_token t ∷ []) (part fed t.start (t.start + t.length)) p
NextTells file lines told fed tokens p old new status answers.More =
    (new ≡ old) × (status ≡ 0) × (p.stage ≡ stages.Going) × Told file lines told fed tokens [] p
    × WantsPiece (token_machine p) fed told tokens (pull_state p.scanner) (pull_waiting p.scanner)
NextTells file lines told fed tokens p old new status answer =
    (new ≡ old) × (status ≡ status_in p.stage) × (answer ≡ answer_at p.stage) × Told file lines told fed tokens [] p

-- A scan that has ended or stopped stays as it is, and tells that again.
abbrev pub TellsAgain : TokenScan → TokenScan → Answer → Type 0
TellsAgain p q answer = (p.stage ≡ stages.Going → ⊥) → (q ≡ p) × (answer ≡ answer_at p.stage)
