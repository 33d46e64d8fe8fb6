-- What the statements of an action do.
use Rattle.std.specs.Prelude.{◌≡◌, ℕ, List, [], ◌∷◌, ◌++◌, take, None}
use Rattle.lex_semantics.specs.Text.{BeginsWith}
use Rattle.lex_semantics.specs.Spec.{Statement, Echo, Print, Begin, More, Less, Reject, End, Push, Pop}
use Rattle.lex_semantics.specs.Acting as Scan
use Rattle.lex_semantics.specs.ActionResults as Results
use Rattle.lex_semantics.specs.Acting.{Ending, Status, StackFault}
use Rattle.lex_semantics.specs.ActionResults.{ActionResult, Done, Over, act_result}
use Rattle.lexscan_window.specs.declared.act.ActionState.{ActionState}
use Rattle.lexscan_window.specs.declared.act.Finish.{Finish}
use Rattle.lexscan_window.specs.declared.act.ActionFlow.{ActionFlow}

-- over these bytes, after so much was written
abbrev pub acting_of : List ℕ → ActionState → List ℕ → Scan.Acting
acting_of w a before =
    record {
      text = take a.end w;
      written = before;
      condition = a.condition;
      stack = a.stack;
      more = a.more;
      ended = None;
    }

-- what a statement writes of a text
abbrev pub said : Statement → List ℕ → List ℕ
said Echo text = text
said (Print s) text = s
said (Begin d) text = []
said More text = []
said (Less n) text = []
said Reject text = []
said (End s) text = []
said (Push d) text = []
said Pop text = []

abbrev pub finish_of : Finish → Ending
finish_of (Finish.Status s) = Status s
finish_of Finish.StackFault = StackFault

-- what follows, where these statements are left
abbrev pub after_step : ActionFlow → List Statement → Scan.Acting → ActionResult
after_step ActionFlow.Next rest a = act_result rest a
after_step ActionFlow.Again rest a = Results.Again a
after_step (ActionFlow.Over f) rest a = Over a (finish_of f)

-- One statement was carried out, and this follows.
abbrev pub StatementCarried : List ℕ → Statement → ActionState → ActionState → ActionFlow → Type 0
StatementCarried w st old new step =
    (before : List ℕ) (rest : List Statement)
    → act_result (st ∷ rest) (acting_of w old before) ≡ after_step step rest
    (acting_of w new (before ++ said st (take old.end w)))

-- what was written by the end of an action
abbrev pub written_of : ActionResult → List ℕ
written_of (Done a) = a.written
written_of (Results.Again a) = a.written
written_of (Over a e) = a.written

-- These statements were carried out.
pub record Carried {K : Type 0} (wrote : K → List ℕ → K → Type 0) (s t : K) (w : List ℕ) (ss : List Statement)
    (old new : ActionState) (step : ActionFlow) : Type 0 where
  pub out : List ℕ
  pub sink : wrote s out t
  pub acts : (before : List ℕ)
      → act_result ss (acting_of w old before) ≡ after_step step [] (acting_of w new (before ++ out))

-- These were carried out up to one of them, and a front of what it says was written.
pub record CutShort {K : Type 0} (wrote : K → List ℕ → K → Type 0) (s t : K) (w : List ℕ) (ss : List Statement)
    (old : ActionState) : Type 0 where
  pub out : List ℕ
  pub sink : wrote s out t
  pub front : (before : List ℕ) → BeginsWith (written_of (act_result ss (acting_of w old before))) (before ++ out)

-- Some of the statements were carried out, and these are left.
pub record CarriedTo {K : Type 0} (wrote : K → List ℕ → K → Type 0) (s t : K) (w : List ℕ) (ss rest : List Statement)
    (old new : ActionState) : Type 0 where
  pub out : List ℕ
  pub sink : wrote s out t
  pub acts : (before : List ℕ)
      → act_result ss (acting_of w old before) ≡ act_result rest (acting_of w new (before ++ out))
