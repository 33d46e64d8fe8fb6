-- Tokens by the tables that are made of a text are those of the specification that it spells. (POSIX, lex: the scanner
-- that is made does what the specification says.)
use Rattle.std.specs.Prelude.{◌≡◌, ℕ, List, Ok}
use Rattle.lex_semantics.specs.Spec.{Spec}
use Rattle.lex_semantics.specs.Rules.{rules_of}
use Rattle.lex_semantics.specs.Machine.{rules_of_machine}
use Rattle.lexspec.specs.Files.{SpellsSpec}
use Rattle.lexscan.specs.Tokens.{SameTokens}
use Rattle.lextab_packed.specs.Machines.{table_machine}
use Rattle.lexkit.specs.Headline.{reading}
use Rattle.lexkit.specs.Generated.{Makes, lines_of}
use Rattle.lexkit.specs.declared.options.Options.{Options}
use Rattle.lexkit.specs.declared.making.Generated.{Generated}

-- The lines that are told are those of its rules.
abbrev pub TextTokens : Type 0
TextTokens =
    (options : Options) (text : List ℕ) (g : Generated) → Makes options text (Ok g) → (S : Spec)
    × SpellsSpec (reading options) text S
    × (g.made.rule_lines.items ≡ lines_of S.rules)
    × SameTokens (rules_of_machine (table_machine g.made.tables)) (rules_of S)
