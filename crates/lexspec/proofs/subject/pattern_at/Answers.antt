use Rattle.std.proofs.Common.{sym}
use Rattle.lexspec.proofs.SubjectLaws.{uncut, cut_twice, no_sides}
use Rattle.lexspec.proofs.subject.pattern_at.Goals as goal

pub returns-in-Err-clause-none : goal.returns-in-Err-clause-none
returns-in-Err-clause-none c = uncut c.args.text.now c.in-Err.ensures.none

pub returns-then-cutting-clause-none : goal.returns-then-cutting-clause-none
returns-then-cutting-clause-none c = let k = c.in-Ok.cutting in cut_twice c.args.text.now k.end k.slash k.two k.dollar c.in-Ok.ensures.found c.if-cutting.true

pub returns-in-None-clause-none : goal.returns-in-None-clause-none
returns-in-None-clause-none c = let k = c.in-Ok.cutting in no_sides c.args.text.now k.end k.slash k.two k.dollar c.in-Ok.ensures.found (sym c.in-None.ensures)
