-- What a file that is compared stands for. (This project's.)
use Rattle.std.specs.Prelude.{◌≡◌, ◌==◌, ℕ, Bool, true, false, List, [], ◌∷◌, ◌++◌, Option, Some, None, option_map, ⊤}
use Rattle.std.specs.List.{starts_with}
use Rattle.lex_semantics.specs.Text.{flag}
use Rattle.lex_semantics.specs.Spec.{Spec}
use Rattle.lex_semantics.specs.Machine.{Machine}
use Rattle.lexspec.specs.Files.{SpellsSpec}
use Rattle.lexspec.specs.Views.{spec_of}
use Rattle.lexspec.specs.declared.spec.Spec.{Spec as Read}
use Rattle.lexauto_dfa.specs.Automata.{machine_of}
use Rattle.lexauto_dfa.specs.declared.dfa.Dfa.{Dfa}
use Rattle.lextab_packed.specs.Table.{Table}
use Rattle.lextab_packed.specs.Steps.{machine_of_table}
use Rattle.lextab_packed.specs.Invariant.{GoesOn}
use Rattle.lextab_file.specs.File.{IsFileOf, magic}
use Rattle.lexkit.specs.LeastAutomata.{IsLeastOf}
use Rattle.lexkit.specs.Headline.{Refusal, TableRefusal, reading}
use Rattle.lexkit.specs.declared.options.Options.{Options}
use Rattle.lexlook_calls.specs.declared.error.LookError.{LookError}
use Rattle.lexlook_calls.specs.declared.error.LookError.TheVariants.{Refused, Table as NoTable, OutOfMemory, Write}

-- The bytes are taken for those of a table file: they begin with LEXTAB, and then a byte that is 0, as each table file
-- does and no specification can.
abbrev pub is_table_file : List ℕ → Bool
is_table_file bytes = starts_with (λ a b. a == b) bytes (magic ++ 0 ∷ [])

-- the specification that was read, without where it lies in memory
abbrev pub read_as : Option Read → Option Spec
read_as spec = option_map spec_of spec

-- The machine of the table whose file the bytes are; or that of the least automaton of the specification that they
-- spell.
abbrev pub StandsFor : Options → List ℕ → Machine → Option Spec → Type 0
StandsFor options bytes M None = (is_table_file bytes ≡ true)
    × (t : Table) × IsFileOf t bytes × (goes_on : List Bool) × GoesOn t goes_on
    × (M ≡ machine_of_table t (λ s. flag goes_on s))
StandsFor options bytes M (Some S) = (is_table_file bytes ≡ false)
    × SpellsSpec (reading options) bytes S × (d : Dfa) × (subsets : ℕ) × IsLeastOf options.limits S subsets d
    × (M ≡ machine_of d S)

-- the bytes are refused rightly
abbrev pub IsRefused : Options → List ℕ → LookError → Type 0
IsRefused options bytes (Refused e) = (is_table_file bytes ≡ false) × Refusal options bytes e
IsRefused options bytes (NoTable e) = (is_table_file bytes ≡ true) × TableRefusal bytes e
IsRefused options bytes OutOfMemory = ⊤
IsRefused options bytes Write = ⊥
