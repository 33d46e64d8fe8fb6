-- How far a scan by pieces has come, and what is answered of it. (Own.)
use Rattle.std.specs.Prelude.{ℕ, Result, Ok, Err, nat_eq, cond}
use Rattle.lexscan.specs.declared.turn.Turn.{Turn}
use Rattle.lexscan_window.specs.declared.error.RunError.{RunError}
use Rattle.lexscan_window.specs.declared.error.RunError.TheVariants as runs
use Rattle.liblex_calls.specs.declared.answer.Answer.{Answer}
use Rattle.liblex_calls.specs.declared.answer.Answer.TheVariants as answers
use Rattle.liblex_calls.specs.declared.stage.Stage.{Stage}
use Rattle.liblex_calls.specs.declared.stage.Stage.TheVariants as stages

-- after a refusal; any other fault counts as want of memory, as a sink over memory fails only where memory is refused
abbrev pub fault_of : RunError → Stage
fault_of runs.Stack = stages.Stack
fault_of runs.TooManyReads = stages.TooManyReads
fault_of other = stages.OutOfMemory

-- after a feed
abbrev pub stage_of : Result Turn RunError → Stage
stage_of (Ok Turn.Went) = stages.Going
stage_of (Ok (Turn.Ended status)) = stages.Ended status
stage_of (Err e) = fault_of e

-- after the end of the input
abbrev pub end_of : Result ℕ RunError → Stage
end_of (Ok status) = stages.Ended status
end_of (Err e) = fault_of e

-- what a feed answers, where nothing is left to be handed out
abbrev pub answer_at : Stage → Answer
answer_at stages.Going = answers.Done
answer_at (stages.Ended status) = answers.Ended
answer_at stages.Stack = answers.Stack
answer_at stages.OutOfMemory = answers.OutOfMemory
answer_at stages.TooManyReads = answers.TooManyReads

-- What is left to be handed out comes before what the scan has come to.
abbrev pub feed_answer : Stage → ℕ → Answer
feed_answer s left = cond (nat_eq left 0) (answer_at s) answers.TooSmall

-- what the end of the input answers, where nothing is left to be handed out
abbrev pub end_answer_at : Stage → Answer
end_answer_at (stages.Ended status) = answers.Done
end_answer_at other = answer_at other

abbrev pub finish_answer : Stage → ℕ → Answer
finish_answer s left = cond (nat_eq left 0) (end_answer_at s) answers.TooSmall

-- the status that a scan has ended with, or 0
abbrev pub status_in : Stage → ℕ
status_in (stages.Ended status) = status
status_in other = 0
