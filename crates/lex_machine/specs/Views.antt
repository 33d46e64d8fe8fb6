-- What the words of a machine stand for.
use Rattle.lex_semantics.specs.Spec as S
use Rattle.lex_machine.specs.declared.action.Statement.{Statement}
use Rattle.lex_machine.specs.declared.action.Statement.TheVariants.{Echo, Print, Begin, More, Less, Reject, End, Push, Pop}
use Rattle.lex_machine.specs.declared.action.EndAction.{EndAction}
use Rattle.lex_machine.specs.declared.cut.Cut.{Cut}

abbrev pub statement_of : Statement → S.Statement
statement_of Echo = S.Echo
statement_of (Print bytes) = S.Print bytes.items
statement_of (Begin c) = S.Begin c
statement_of More = S.More
statement_of (Less n) = S.Less n
statement_of Reject = S.Reject
statement_of (End n) = S.End n
statement_of (Push c) = S.Push c
statement_of Pop = S.Pop

abbrev pub end_action_of : EndAction → S.EndAction
end_action_of e = record { print = e.print.items; status = e.status }

abbrev pub cut_of : Cut → S.Cut
cut_of Cut.Whole = S.Whole
cut_of (Cut.Head m) = S.Head m
cut_of (Cut.Trail n) = S.Trail n
