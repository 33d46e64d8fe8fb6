use Rattle.std.proofs.Common.{rules, arith}
use Rattle.lex_semantics.specs.Shapes.{IsSoundTree}
use Rattle.lex_semantics.specs.Tree.{Set}
use Rattle.lexre.specs.declared.pattern.Pattern.TheFolds.{the_lemmas}
use Rattle.lexre.proofs.SoundLaws.{sound_byte}
use Rattle.lexre.proofs.quotes.byte_pattern.Goals as goal

pub returns-clause-sound : goal.returns-clause-sound
returns-clause-sound c =
    let h : IsSoundTree (Set c.fold_if.result) = rw (c.fold_if.ensures, c.of.ensures) (sound_byte c.args.fold c.args.byte (omega arith)) in
    search (rules, the_lemmas, h)
