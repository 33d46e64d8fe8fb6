-- The words of tables, each by itself.
use Rattle.std.proofs.Common.{◌≡◌, [], ◌∷◌, refl}
use Rattle.std.specs.Prelude.{codes}
use Rattle.lex_semantics.specs.ByteSets.{is_blank}
use Rattle.lexspec_lines.specs.Lines.{words}
use Rattle.lexspec_lines.specs.DefinitionLines.{known_options}

pub inclusive : words (codes "%s %S %start %Start") ≡ codes "%s" ∷ codes "%S" ∷ codes "%start" ∷ codes "%Start" ∷ []
unfolding is_blank
inclusive = refl

pub exclusive : words (codes "%x %X") ≡ codes "%x" ∷ codes "%X" ∷ []
unfolding is_blank
exclusive = refl

pub storage : words (codes "%array %pointer") ≡ codes "%array" ∷ codes "%pointer" ∷ []
unfolding is_blank
storage = refl

pub sizes : words (codes "%p %n %a %e %k %o") ≡ codes "%p" ∷ codes "%n" ∷ codes "%a" ∷ codes "%e" ∷ codes "%k" ∷ codes "%o" ∷ []
unfolding is_blank
sizes = refl

pub options : known_options ≡ codes "noyywrap" ∷ codes "nounput" ∷ codes "noinput" ∷ codes "yylineno" ∷ codes "8bit" ∷ codes "batch" ∷ codes "interactive" ∷ codes "always-interactive" ∷ codes "never-interactive" ∷ codes "case-insensitive" ∷ codes "stack" ∷ []
unfolding is_blank
options = refl
