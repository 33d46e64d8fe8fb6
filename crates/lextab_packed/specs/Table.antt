-- A packed table as a value. (Its rows and slots: Aho, Sethi and Ullman, Compilers, 3.9; its file is this project's.)
use Rattle.std.specs.Prelude.{ℕ, List}
use Rattle.lex_semantics.specs.Spec.{Statement, EndAction, Cut}

-- where matches start in a condition, not at and at the start of a line, and what its end does
pub record ConditionOfTable : Type 0 where
  pub start : ℕ
  pub line_start : ℕ
  pub end : EndAction

pub record RuleOfTable : Type 0 where
  pub cut : Cut
  pub statements : List Statement

-- of a state: the target of most classes, where its other targets are, and the rules that it accepts
pub record Row : Type 0 where
  pub default_target : ℕ
  pub base : ℕ
  pub rules : List ℕ

-- the state that a slot is for, or 0, and the target that stands there
pub record Slot : Type 0 where
  pub check : ℕ
  pub next : ℕ

pub record Table : Type 0 where
  pub conditions : List ConditionOfTable
  pub rules : List RuleOfTable
  -- how many byte classes there are, and the class of each byte
  pub classes : ℕ
  pub class_of : List ℕ
  pub rows : List Row
  pub slots : List Slot
