-- What a scan by the text of a specification leaves. (What is written is that of POSIX and flex; what is taken from the
-- source, the limits and the refusals are this project's.)
use Rattle.std.specs.Prelude.{◌≡◌, ℕ, ◌+◌, ◌<◌, ◌≤◌, Bool, false, List, length, Result, Ok, Err, Some, ⊤, slice_index_or}
use Rattle.lex_semantics.specs.Demand.{answers}
use Rattle.lex_semantics.specs.Spec.{Spec}
use Rattle.lex_semantics.specs.Rules.{Rules, rules_of}
use Rattle.lex_semantics.specs.Machine.{rules_of_machine}
use Rattle.lextab_packed.specs.Table.{Table}
use Rattle.lextab_packed.specs.Steps.{machine_of_table}
use Rattle.lextab_packed.specs.Invariant.{GoesOn}
use Rattle.lextab_file.specs.File.{IsFileOf}
use Rattle.lextab_file.specs.Refusals.{is_out_of_memory, read_refusal}
use Rattle.lextab_file.specs.declared.error.TableError.TheVariants as errors
use Rattle.lextab_file.specs.declared.error.TableError.{TableError}
use Rattle.lex_semantics.specs.Subsets.{HasSubsets, all_positions}
use Rattle.lexspec.specs.Outcome.{UnlessMemory}
use Rattle.lexspec.specs.Files.{SpellsSpec, ReadOptions}
use Rattle.lexauto.specs.declared.subsets.Limits.{Limits}
use Rattle.lexauto.specs.declared.error.BuildError.{BuildError}
use Rattle.lexauto.specs.declared.error.BuildError.TheVariants as builds
use Rattle.lexscan.specs.Runs.{Ran}
use Rattle.lexscan_window.specs.declared.error.RunError.{RunError}
use Rattle.lexkit.specs.declared.options.Options.{Options}
use Rattle.lexkit.specs.declared.errors.GenError.{GenError}
use Rattle.lexkit.specs.declared.errors.GenError.TheVariants as gens
use Rattle.lexkit.specs.declared.errors.ScanError.{ScanError}
use Rattle.lexkit.specs.declared.errors.ScanError.TheVariants as scans

-- a scan makes at most so many reads: 2 ^ 40
abbrev pub max_reads : ℕ
max_reads = 1099511627776

-- the automaton of the specification is within the limits
pub record IsWithin (limits : Limits) (S : Spec) : Type 0 where
  pub few_positions : all_positions S.rules ≤ limits.positions
  pub states : ℕ
  pub subsets : HasSubsets S states
  pub few_states : states ≤ limits.states

-- The builder refuses a specification only where its automaton passes a limit, or memory ran out.
abbrev pub BuildRefusal : Limits → Spec → BuildError → Type 0
BuildRefusal limits S builds.TooManyPositions = limits.positions < all_positions S.rules
BuildRefusal limits S builds.TooManyStates = (n : ℕ) → HasSubsets S n → limits.states < n
BuildRefusal limits S builds.OutOfMemory = ⊤

-- how the patterns of a specification are read
abbrev pub reading : Options → ReadOptions
reading options = record { fold = options.fold; posix = options.posix }

-- A text is refused only where it spells no specification, or the automaton of the one that it spells passes a limit,
-- or memory ran out.
abbrev pub Refusal : Options → List ℕ → GenError → Type 0
Refusal options text (gens.Spec e) = UnlessMemory e.kind ((S : Spec) → SpellsSpec (reading options) text S → ⊥)
Refusal options text (gens.Build e) = (S : Spec) × SpellsSpec (reading options) text S × BuildRefusal options.limits S e
Refusal options text gens.OutOfMemory = ⊤

-- Bytes are refused only where they are the file of no table, or memory ran out.
abbrev pub TableRefusal : List ℕ → TableError → Type 0
TableRefusal bytes errors.OutOfMemory = ⊤
TableRefusal bytes e = (t : Table) → IsFileOf t bytes → ⊥

-- of bytes that are refused the fault is told that comes first from the left
abbrev pub TellsFault : List ℕ → ScanError → Type 0
TellsFault bytes (scans.Table e) = is_out_of_memory e ≡ false → read_refusal bytes ≡ Some e
TellsFault bytes other = ⊤

-- What the calls of the source from s to s' give, and what those of the sink from t to t' write; whether the source has
-- answered its end, and how often it failed.
module _ {A B : Type 0} (gave : A → List ℕ → A → Type 0) (wrote : B → List ℕ → B → Type 0) (s s' : A) (t t' : B)
    (at_end : Bool) (faults : ℕ) where
  -- The source gave, and the sink was given, what the scan by the rules asks for. It came to its end: they are the
  -- bytes of the run. Or it stopped: what was written is a front of what the run writes; where the stack of conditions
  -- was at fault, it is all of it, and the run ends so. The bytes given, the answer of the end and the reads that
  -- failed are no more than are allowed.
  pub record Scans (R : Rules) (answer : Result ℕ RunError) : Type 0 where
    pub given : List ℕ
    pub out : List ℕ
    pub source : gave s given s'
    pub sink : wrote t out t'
    pub ran : Ran R given out at_end max_reads answer
    pub few_reads : answers given at_end + faults ≤ max_reads

  -- The text spells a specification within the limits, and the scan is by its rules.
  abbrev pub ScansSpec : Options → List ℕ → Result ℕ RunError → Type 0
  ScansSpec options text answer =
      (S : Spec) × SpellsSpec (reading options) text S × IsWithin options.limits S × Scans (rules_of S) answer

  -- The headline: the scan is that of the specification that the text spells. A text that is refused leaves both ends
  -- as they were.
  abbrev pub Headline : Options → List ℕ → Result ℕ ScanError → Type 0
  Headline options text (Ok status) = ScansSpec options text (Ok status)
  Headline options text (Err (scans.Run e)) = ScansSpec options text (Err e)
  Headline options text (Err (scans.Generate e)) = Refusal options text e × (s' ≡ s) × (t' ≡ t)
  Headline options text (Err (scans.Table e)) = ⊥

  -- what the scan by a specification answers: it came to its end or stopped, or no automaton was built
  abbrev pub ScansBy : Limits → Spec → Result ℕ ScanError → Type 0
  ScansBy limits S (Ok status) = IsWithin limits S × Scans (rules_of S) (Ok status)
  ScansBy limits S (Err (scans.Run e)) = IsWithin limits S × Scans (rules_of S) (Err e)
  ScansBy limits S (Err (scans.Generate (gens.Build e))) = BuildRefusal limits S e × (s' ≡ s) × (t' ≡ t)
  ScansBy limits S (Err (scans.Generate gens.OutOfMemory)) = (s' ≡ s) × (t' ≡ t)
  ScansBy limits S other = ⊥

  -- The rules of a table: those of its machine, where the states go on from which a text leads to one that accepts.
  pub record ScansTable (bytes : List ℕ) (answer : Result ℕ RunError) : Type 0 where
    pub table : Table
    pub file : IsFileOf table bytes
    pub goes_on : List Bool
    pub leads : GoesOn table goes_on
    pub scans : Scans (rules_of_machine (machine_of_table table (λ state. slice_index_or goes_on state false))) answer

  -- The scan is that by the rules of the table whose file the bytes are. Bytes that are refused leave both ends as they
  -- were.
  abbrev pub TableHeadline : List ℕ → Result ℕ ScanError → Type 0
  TableHeadline bytes (Ok status) = ScansTable bytes (Ok status)
  TableHeadline bytes (Err (scans.Run e)) = ScansTable bytes (Err e)
  TableHeadline bytes (Err (scans.Table e)) = TableRefusal bytes e × (s' ≡ s) × (t' ≡ t)
  TableHeadline bytes (Err (scans.Generate e)) = ⊥
