use Rattle.std.proofs.Common.{◌≡◌, ◌++◌, ◌-◌, length}
use Rattle.lex_semantics.specs.Text.{flag, listed}
use Rattle.lexauto.proofs.sets.numbers_of.Given as goal

abbrev pub invariant-loop-i : goal.invariant-loop-i
invariant-loop-i l = l.numbers.items ++ listed (flag l.marks) l.i (length l.marks - l.i) ≡ listed (flag l.marks) 0 (length l.marks)
