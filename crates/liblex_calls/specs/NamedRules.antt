-- What asking for the name of a rule leaves in a buffer of the caller. (Own.)
use Rattle.std.specs.Prelude.{ℕ, List, [], slice_get}
use Rattle.std.specs.Option.{option_map_or}
use Rattle.lex_names.specs.RuleNames.{rule_name}
use Rattle.lextab_packed.specs.Table.{Table}
use Rattle.lextab_file.specs.File.{IsFileOf}
use Rattle.liblex_calls.specs.Buffers.{HandedOut, FitsInto, NothingOut}
use Rattle.liblex_calls.specs.declared.answer.Answer.{Answer}
use Rattle.liblex_calls.specs.declared.answer.Answer.TheVariants as answers

-- the name of a rule of a table, by its number, and no byte where there is none
abbrev pub name_in : Table → ℕ → List ℕ
name_in t i = option_map_or (λ r. rule_name r.statements) (slice_get t.rules i) []

-- The name of the rule of the table whose file this is was handed out.
pub record NameHandedOut (file : List ℕ) (rule : ℕ) (old new : List ℕ) (count : ℕ) (answer : Answer) : Type 0 where
  pub table : Table
  pub is_file : IsFileOf table file
  pub handed : HandedOut (name_in table rule) old new count
  pub fits : FitsInto (name_in table rule) old answer

-- What asking for a name leaves, by what it answers.
abbrev pub NamesRule : List ℕ → ℕ → List ℕ → List ℕ → ℕ → Answer → Type 0
NamesRule file rule old new count answers.Done = NameHandedOut file rule old new count answers.Done
NamesRule file rule old new count answers.TooSmall = NameHandedOut file rule old new count answers.TooSmall
NamesRule file rule old new count answers.OutOfMemory = NothingOut old new count
NamesRule file rule old new count other = ⊥
