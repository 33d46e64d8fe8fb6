-- How an action leaves a scan, as a value. `proofs/ResultsAre.antt` shows that this is what `Acting` says.
-- (POSIX and flex, Actions in lex.)
use Rattle.std.specs.Prelude.{ℕ, Bool, true, false, List, [], ◌∷◌, ◌++◌, length, take, nat_lt, if◌then◌else◌, Option, Some, None}
use Rattle.lex_semantics.specs.Limits.{max_stack}
use Rattle.lex_semantics.specs.Spec.{Statement, Echo, Print, Begin, More, Less, Reject, End, Push, Pop}
use Rattle.lex_semantics.specs.Rules.{Rules, statements_of}
use Rattle.lex_semantics.specs.Candidates.{Candidate}
use Rattle.lex_semantics.specs.Acting.{Ending, Status, StackFault, Acting}

-- how an action leaves the scan: it is done, it goes on to the next best match, or it ends the scan
pub data ActionResult : Type 0 where
  Done : Acting → ActionResult
  Again : Acting → ActionResult
  Over : Acting → Ending → ActionResult

-- The stack has room for 255 conditions. (flex, Start Conditions, has no bound; this one is own.)
abbrev pub has_room : List ℕ → Bool
has_room cs = nat_lt (length cs) max_stack

-- goes on with the condition that is taken from the stack, and with what is left there
abbrev pub popped : List ℕ → Acting → (ℕ → List ℕ → ActionResult) → ActionResult
popped [] a next = Over a StackFault
popped (c ∷ cs) a next = next c cs

-- the statements of an action, from the first on
abbrev pub act_result : List Statement → Acting → ActionResult
act_result [] a = Done a
act_result (Echo ∷ ss) a = act_result ss (record a { written = a.written ++ a.text })
act_result (Print s ∷ ss) a = act_result ss (record a { written = a.written ++ s })
act_result (Begin d ∷ ss) a = act_result ss (record a { condition = d })
act_result (More ∷ ss) a = act_result ss (record a { more = true })
act_result (Less n ∷ ss) a = act_result ss (record a { text = take n a.text })
act_result (Reject ∷ ss) a = Again a
act_result (End s ∷ ss) a = Over a (Status s)
act_result (Push d ∷ ss) a =
    if has_room a.stack then act_result ss (record a { condition = d; stack = a.condition ∷ a.stack })
    else Over a StackFault
act_result (Pop ∷ ss) a = popped a.stack a (λ c cs. act_result ss (record a { condition = c; stack = cs }))

-- the outcome of an action, where `next` is what follows a REJECT
abbrev pub settle : ActionResult → (Acting → Option Acting) → Option Acting
settle (Done a) next = Some (record a { ended = None })
settle (Again a) next = next a
settle (Over a e) next = Some (record a { ended = Some e })

-- The matches are taken in order, up to the first that is not rejected. The text is what yymore kept, and then
-- the match's part of y. What was written stays written, and the condition and the stack stay.
unfoldable pub perform_results : Rules → (kept y : List ℕ) → List Candidate → (written : List ℕ) → ℕ → List ℕ
    → Option Acting
perform_results R kept y [] written condition stack = None
perform_results R kept y (m ∷ ms) written condition stack =
    settle (act_result (statements_of R m.rule)
    (record {
      text = kept ++ take m.keep y;
      written = written;
      condition = condition;
      stack = stack;
      more = false;
      ended = None;
    }))
    (λ a. perform_results R kept y ms a.written a.condition a.stack)
