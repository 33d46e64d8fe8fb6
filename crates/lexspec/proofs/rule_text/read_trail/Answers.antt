use Rattle.std.proofs.Common.{Some, ap, rules, arith}
use Rattle.lex_semantics.specs.Tree.{Set}
use Rattle.lexre.specs.declared.pattern.Pattern.TheFolds.{the_lemmas}
use Rattle.lexre_bytes.proofs.SetLaws.{sound_single}
use Rattle.lexspec.specs.SubjectViews.{trailing_of}
use Rattle.lexspec.proofs.rule_text.read_trail.Goals as goal

pub returns-in-LineEnd-clause-found : goal.returns-in-LineEnd-clause-found
returns-in-LineEnd-clause-found c = rw (ap trailing_of c.in-LineEnd.is) (simp the_lemmas (ap (λ s. Some (Set s)) c.of.ensures))

pub returns-in-LineEnd-clause-sound : goal.returns-in-LineEnd-clause-sound
returns-in-LineEnd-clause-sound c = let h = sound_single c.of.result 10 (omega arith) c.of.ensures in search (rules, the_lemmas, h)
