use Rattle.std.proofs.Common.{rules, arith}
use Rattle.lexre.specs.declared.pattern.Pattern.TheFolds.{the_lemmas}
use Rattle.lexre_bytes.proofs.SetLaws.{sound_single}
use Rattle.lextest_parts.proofs.patterns.byte.Goals as goal

pub returns : goal.returns
returns c = let h = sound_single c.of.result c.args.byte (omega arith) c.of.ensures in search (rules, the_lemmas, h)
