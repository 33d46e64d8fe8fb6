-- What is made of the text of a specification. (Rules that cannot be matched: flex's warnings; states that back up:
-- flex, Scanner Options: -b; the least automaton, its tables and the counts are this project's.)
use Rattle.std.specs.Prelude.{◌≡◌, ◌↔◌, ℕ, ◌<◌, true, false, slice_index_or, List, ◌++◌, length, map, Result, Ok, Err, ⊤}
use Rattle.std.specs.List.Sorted.{IsPermutation}
use Rattle.lex_semantics.specs.Text.{Among, Pairwise}
use Rattle.lex_semantics.specs.Spec.{Spec, Rule}
use Rattle.lex_semantics.specs.Sound.{IsSound}
use Rattle.lex_semantics.specs.Machine.{Machine}
use Rattle.lex_semantics.specs.Reports.{Useless}
use Rattle.lex_semantics.specs.Subsets.{HasSubsets, all_positions}
use Rattle.lexspec.specs.Files.{SpellsSpec}
use Rattle.lexspec.specs.Skipped.{AreSkipped}
use Rattle.lexauto.specs.declared.subsets.Limits.{Limits}
use Rattle.lexauto_reports.specs.BackWords.{IsFirstWord, IsAfterBackWord}
use Rattle.lexauto_reports.specs.Warned.{of_rule, MayPrecede}
use Rattle.lexauto_reports.specs.declared.backup.BackUp.{BackUp}
use Rattle.lexauto_reports.specs.declared.warned.Warning.{Warning}
use Rattle.lextab_packed.specs.Table.{Table}
use Rattle.lextab_packed.specs.Views.{table_of}
use Rattle.lextab_packed.specs.Machines.{table_machine}
use Rattle.lextab_packed.specs.declared.tables.Tables.{Tables}
use Rattle.lextab_file.specs.File.{file_of}
use Rattle.lexkit.specs.Canonical.{IsCanonicalFor}
use Rattle.lexkit.specs.Headline.{BuildRefusal, IsWithin, Refusal, reading}
use Rattle.lexkit.specs.declared.options.Options.{Options}
use Rattle.lexkit.specs.declared.errors.GenError.{GenError}
use Rattle.lexkit.specs.declared.errors.GenError.TheVariants as gens
use Rattle.lexkit.specs.declared.making.Generated.{Generated}
use Rattle.lexkit.specs.declared.making.Made.{Made}
use Rattle.lexkit.specs.declared.stats.Stats.{Stats}

-- why no automaton is made of a specification
abbrev pub SpecRefusal : Limits → Spec → GenError → Type 0
SpecRefusal limits S (gens.Build e) = BuildRefusal limits S e
SpecRefusal limits S gens.OutOfMemory = ⊤
SpecRefusal limits S (gens.Spec e) = ⊥

-- the line of the pattern of each rule
abbrev pub lines_of : List Rule → List ℕ
lines_of rules = map (λ r. r.line) rules

-- the counts of the statistics
pub record AreCounts (S : Spec) (t : Table) (z : Stats) : Type 0 where
  pub rules : z.rules ≡ length S.rules
  pub conditions : z.conditions ≡ length S.conditions
  pub positions : z.positions ≡ all_positions S.rules
  pub subsets : HasSubsets S z.subsets
  pub states : z.states ≡ length t.rows
  pub classes : z.classes ≡ t.classes
  pub slots : z.slots ≡ length t.slots
  pub bytes : z.bytes ≡ length (file_of t)

-- one warning for each line of skipped code and for each useless rule, in order of line
abbrev pub AreWarnings : Spec → List ℕ → List Warning → Type 0
AreWarnings S skipped ws =
    Pairwise MayPrecede ws × ((useless : List ℕ) × Pairwise ◌<◌ useless × ((i : ℕ) → Among useless i ↔ Useless S i)
    × IsPermutation (map (λ line. record { line = line; code = true }) skipped ++ map (of_rule S.rules) useless) ws)

-- the states after back words, ascending, each with its first word
pub record AreBackUps (M : Machine) (S : Spec) (entries : List BackUp) : Type 0 where
  pub ascending : Pairwise ◌<◌ (map (λ e. e.state) entries)
  pub states : (s : ℕ) → Among (map (λ e. e.state) entries) s ↔ IsAfterBackWord M S s
  pub words : (e : BackUp) → Among entries e → IsFirstWord M e.state e.word.items

-- the packed tables of the least automaton of a specification, whose file is the canonical one
pub record AreTablesOf (limits : Limits) (S : Spec) (t : Tables) : Type 0 where
  pub sound : IsSound S
  pub within : IsWithin limits S
  pub canonical : IsCanonicalFor S (table_of t.parts) (λ s. slice_index_or t.goes_on.items s false)
      (file_of (table_of t.parts))

-- such tables with the lines of the rules, warnings and counts; `skipped` are the lines of skipped code
pub record AreMadeOf (limits : Limits) (S : Spec) (skipped : List ℕ) (m : Made) : Type 0 where
  pub tables : AreTablesOf limits S m.tables
  pub rule_lines : m.rule_lines.items ≡ map (λ r. r.line) S.rules
  pub warnings : AreWarnings S skipped m.warnings.items
  pub stats : AreCounts S (table_of m.tables.parts) m.stats

-- the same with the back words
pub record IsMadeOf (limits : Limits) (S : Spec) (skipped : List ℕ) (g : Generated) : Type 0 where
  pub made : AreMadeOf limits S skipped g.made
  pub backup : AreBackUps (table_machine g.made.tables) S g.backup.items

-- what is made by a specification with these lines of skipped code
abbrev pub MakesBy : Limits → Spec → List ℕ → Result Generated GenError → Type 0
MakesBy limits S skipped (Ok g) = IsMadeOf limits S skipped g
MakesBy limits S skipped (Err e) = SpecRefusal limits S e

abbrev pub MakesTablesBy : Limits → Spec → List ℕ → Result Made GenError → Type 0
MakesTablesBy limits S skipped (Ok m) = AreMadeOf limits S skipped m
MakesTablesBy limits S skipped (Err e) = SpecRefusal limits S e

-- what is made of a text
abbrev pub Makes : Options → List ℕ → Result Generated GenError → Type 0
Makes options text (Ok g) =
    (S : Spec) × SpellsSpec (reading options) text S × (skipped : List ℕ) × AreSkipped text skipped
    × IsMadeOf options.limits S skipped g
Makes options text (Err e) = Refusal options text e

abbrev pub MakesTables : Options → List ℕ → Result Made GenError → Type 0
MakesTables options text (Ok m) =
    (S : Spec) × SpellsSpec (reading options) text S × (skipped : List ℕ) × AreSkipped text skipped
    × MakesTablesBy options.limits S skipped (Ok m)
MakesTables options text (Err e) = Refusal options text e
