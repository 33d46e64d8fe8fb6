use Rattle.std.proofs.Common.{rules}
use Rattle.lex_semantics.specs.Shapes.{IsSoundTree}
use Rattle.lex_semantics.specs.Tree.{Set}
use Rattle.lexre.specs.declared.pattern.Pattern.TheFolds.{the_lemmas}
use Rattle.lexre.proofs.SoundLaws.{sound_any}
use Rattle.lexre.proofs.lexer.symbol_at.Goals as goal

pub returns-in-46-clause-sound : goal.returns-in-46-clause-sound
returns-in-46-clause-sound c =
    let h : IsSoundTree (Set c.complement-set.result) = rw (c.complement-set.ensures, c.of.ensures) sound_any in
    search (rules, the_lemmas, h)
