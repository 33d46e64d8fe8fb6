-- Worked examples of marks, by the machine of `a+ REJECT;` and `a printf("A");` and its quiet one.
use Rattle.std.specs.Prelude.{ℕ, true, false, [], codes}
use Rattle.lex_machine.specs.Quiets.{quiet}
use Rattle.lex_machine.specs.QuietExamples.{letters}
use Rattle.lexscan_window.specs.Memos.{Barren, GoesOver, TellsWalk}
use Rattle.lexscan_window.specs.declared.memo.Mark.{Mark}

-- from the start over so many letters, to the state after these
abbrev pub mark_over : ℕ → Mark
mark_over count = record { place = 0; state = 1; count = count; last = 3; before = 2 }

-- Behind one letter more of them fit `a+`, which the quiet machine leaves out. Where the bytes end the walk asks for
-- the end, and behind another letter for nothing. A mark tells of the last state where a rule fits.
pub record MarkExamples : Type 0 where
  pub fits : Barren letters true 2 (codes "a") → ⊥
  pub left_out : Barren (quiet letters) true 2 (codes "a")
  pub wants_more : Barren (quiet letters) false 2 (codes "a") → ⊥
  pub stopped : Barren (quiet letters) false 2 (codes "ab")
  pub over_two : GoesOver letters 1 (codes "aa") 3 2
  pub not_before : GoesOver letters 1 (codes "aa") 3 1 → ⊥
  pub over_none : GoesOver letters 1 [] 1 7
  pub past_the_end : GoesOver letters 1 (codes "ba") 0 0 → ⊥
  pub to_the_last : TellsWalk letters true (mark_over 2) (codes "aab")
  pub not_the_last : TellsWalk letters true (mark_over 2) (codes "aaa") → ⊥
  pub too_few : TellsWalk letters true (mark_over 3) (codes "aa") → ⊥
