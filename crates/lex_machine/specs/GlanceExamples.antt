-- A worked example of the only state that leads to another by a byte.
use Rattle.lex_machine.specs.Glances.{OnlyBefore}
use Rattle.lex_machine.specs.QuietExamples.{letters}

-- One letter comes from state 1 alone. More letters lead from state 2, and from 3 to itself: neither is the only
-- one, but of the first three states state 2 is. Nothing leads to the start.
pub record GlanceExamples : Type 0 where
  pub first_letter : OnlyBefore letters 4 2 1
  pub more_letters : OnlyBefore letters 4 3 2 → ⊥
  pub of_three : OnlyBefore letters 3 3 2
  pub nor_itself : OnlyBefore letters 4 3 3 → ⊥
  pub start : OnlyBefore letters 4 1 0
