-- The law of the specification that tells its matches. (This project's.)
use Rattle.std.specs.Prelude.{ℕ, List}
use Rattle.lex_semantics.specs.Acting.{Ending}
use Rattle.lex_semantics.specs.Rules.{rules_of}
use Rattle.lex_semantics.specs.Run.{State, Turns, Run}
use Rattle.lex_semantics.specs.Spec.{Spec}
use Rattle.lex_semantics.specs.Text.{IsText}
use Rattle.lexlook_specs.specs.Lines.{Lines}
use Rattle.lexlook_specs.specs.Traced.{traced}

-- a scan that stands as this one does, and has written these lines
abbrev pub with_lines : List ℕ → State → State
with_lines lines s = record { written = lines; place = s.place; ended = s.ended }

-- After n turns of both the scan by the specification that tells stands where the scan by the specification does, and
-- has written the lines of its matches.
abbrev pub TellsTurns : Spec → Type 0
TellsTurns S = (x : List ℕ) (n : ℕ) (s : State) → IsText x → Turns (rules_of S) x n s →
    (lines : List ℕ) × Lines S x n lines × Turns (rules_of (traced S)) x n (with_lines lines s)

-- A run by the specification that tells writes the lines of the matches of the specification's run, and ends as that
-- does.
pub record TellsRun (S : Spec) (x lines : List ℕ) (ending : Ending) : Type 0 where
  pub written : List ℕ
  pub run : Run (rules_of S) x written ending
  pub lines_are : Lines S x run.0 lines

abbrev pub TellsRuns : Spec → Type 0
TellsRuns S =
    (x lines : List ℕ) (ending : Ending) → IsText x → Run (rules_of (traced S)) x lines ending
    → TellsRun S x lines ending
