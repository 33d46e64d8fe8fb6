-- What the actions of a match do. (POSIX and flex, Actions in lex.)
use Rattle.std.specs.Prelude.{ℕ, Bool, true, false, List, [], ◌∷◌, ◌++◌, length, take, drop, slice_index, nat_lt, if◌then◌else◌, Option, Some, None}
use Rattle.lex_semantics.specs.Limits.{max_stack}
use Rattle.lex_semantics.specs.Spec.{Statement, Echo, Print, Begin, More, Less, Reject, End, Push, Pop}
use Rattle.lex_semantics.specs.Rules.{Rules, statements_of}
use Rattle.lex_semantics.specs.Candidates.{Candidate}

-- how a scan ends: with a status, or because the stack of conditions was full at a push or empty at a pop
pub data Ending : Type 0 where
  Status : ℕ → Ending
  StackFault : Ending

-- the current text, what the turn has written, the condition of the next match, the stack of conditions from its
-- top down, whether the next text is appended to this one, and how the scan has ended, if it has
pub record Acting : Type 0 where
  pub text : List ℕ
  pub written : List ℕ
  pub condition : ℕ
  pub stack : List ℕ
  pub more : Bool
  pub ended : Option Ending

-- The outcome of these statements, from the first on; `reject` says what follows a REJECT. The stack has room for 255
-- conditions. (flex, Start Conditions, has no bound; this one is own.)
abbrev pub act : (reject : Acting → Option Acting) → List Statement → Acting → Option Acting
act reject [] a = Some a
act reject (Echo ∷ ss) a = act reject ss (record a { written = a.written ++ a.text })
act reject (Print s ∷ ss) a = act reject ss (record a { written = a.written ++ s })
act reject (Begin d ∷ ss) a = act reject ss (record a { condition = d })
act reject (More ∷ ss) a = act reject ss (record a { more = true })
act reject (Less n ∷ ss) a = act reject ss (record a { text = take n a.text })
act reject (Reject ∷ ss) a = reject a
act reject (End s ∷ ss) a = Some (record a { ended = Some (Status s) })
act reject (Push d ∷ ss) a =
    if nat_lt (length a.stack) max_stack then act reject ss (record a { condition = d; stack = a.condition ∷ a.stack })
    else Some (record a { ended = Some StackFault })
act reject (Pop ∷ ss) a =
    if nat_lt 0 (length a.stack)
    then act reject ss (record a { condition = slice_index a.stack 0; stack = drop 1 a.stack })
    else Some (record a { ended = Some StackFault })

-- The matches are taken in order, up to the first that is not rejected. The text is what yymore kept, and then
-- the match's part of y. What was written stays written, and the condition and the stack stay.
unfoldable pub perform : Rules → (kept y : List ℕ) → List Candidate → (written : List ℕ) → ℕ → List ℕ → Option Acting
perform R kept y [] written condition stack = None
perform R kept y (m ∷ ms) written condition stack =
    act (λ a. perform R kept y ms a.written a.condition a.stack) (statements_of R m.rule)
    (record {
      text = kept ++ take m.keep y;
      written = written;
      condition = condition;
      stack = stack;
      more = false;
      ended = None;
    })
