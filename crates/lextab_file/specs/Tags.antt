-- The bytes that stand for kinds of cuts and of statements.
use Rattle.std.specs.Prelude.{◌≡◌, ℕ, ◌≤◌, Option, Some, None}
use Rattle.lextab_file.specs.declared.tag.CutTag.{CutTag}
use Rattle.lextab_file.specs.declared.tag.StatementTag.{StatementTag}

abbrev pub cut_byte : CutTag → ℕ
cut_byte CutTag.Whole = 0
cut_byte CutTag.Head = 1
cut_byte CutTag.Trail = 2

abbrev pub statement_byte : StatementTag → ℕ
statement_byte StatementTag.Echo = 0
statement_byte StatementTag.Print = 1
statement_byte StatementTag.Begin = 2
statement_byte StatementTag.More = 3
statement_byte StatementTag.Less = 4
statement_byte StatementTag.Reject = 5
statement_byte StatementTag.End = 6
statement_byte StatementTag.Push = 7
statement_byte StatementTag.Pop = 8

-- the kind that the byte stands for, of so many kinds, if it stands for one
abbrev pub IsByte : {T : Type 0} → (T → ℕ) → ℕ → ℕ → Option T → Type 0
IsByte byte_of count byte (Some tag) = byte ≡ byte_of tag
IsByte byte_of count byte None = count ≤ byte
