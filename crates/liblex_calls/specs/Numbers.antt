-- The numbers that C sees. (Own; from 65 on they are those of BSD's sysexits, as the program's statuses.)
use Rattle.std.specs.Prelude.{ℤ, pos}
use Rattle.liblex_calls.specs.declared.answer.Answer.{Answer}
use Rattle.liblex_calls.specs.declared.answer.Answer.TheVariants as answers

abbrev pub number_of : Answer → ℤ
number_of answers.Done = pos 0
number_of answers.TooSmall = pos 1
number_of answers.Ended = pos 2
number_of answers.Closed = pos 3
number_of answers.More = pos 4
number_of answers.Refused = pos 65
number_of answers.Stack = pos 70
number_of answers.OutOfMemory = pos 71
number_of answers.TooManyReads = pos 74
