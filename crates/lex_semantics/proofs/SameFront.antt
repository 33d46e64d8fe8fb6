-- Turns that ask for nothing beyond a front are the same whatever follows.
use Rattle.std.proofs.Common.{ℕ, ◌≤◌, List, ◌++◌, length}
use Rattle.lex_semantics.specs.Text.{IsText}
use Rattle.lex_semantics.specs.Rules.{Rules}
use Rattle.lex_semantics.specs.Laws.{Laws}
use Rattle.lex_semantics.specs.Run.{State}
use Rattle.lex_semantics.specs.Scanned.{AfterTurns}
use Rattle.lex_semantics.proofs.Prefix as Prefix

pub same_after_front : (R : Rules) (l : Laws R) (front a b : List ℕ) → IsText (front ++ a) → IsText (front ++ b) → (n : ℕ) (s : State) (asked : ℕ) → asked ≤ length front →
    AfterTurns R (front ++ a) n s asked → AfterTurns R (front ++ b) n s asked
same_after_front R l front a b text_a text_b n s asked le h = Prefix.same_turns R l front a b text_a text_b n s asked le h
