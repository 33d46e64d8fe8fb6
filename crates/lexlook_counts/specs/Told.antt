-- What telling the counts of a scan of a source leaves. (POSIX, lex, Rules in lex: which matches these are; the rest is
-- this project's.)
use Rattle.std.specs.Prelude.{◌≡◌, ℕ, ◌+◌, Bool, List, length, map, Result, Ok, Err, ◌++◌, Option}
use Rattle.std.specs.List.{concat}
use Rattle.lex_io.specs.Sink.{Appended}
use Rattle.lex_semantics.specs.Acting.{Status}
use Rattle.lex_semantics.specs.ByteSets.{bit_of}
use Rattle.lex_semantics.specs.Machine.{Machine}
use Rattle.lex_semantics.specs.Rules.{rules_of}
use Rattle.lex_semantics.specs.Spec.{Spec, rejects}
use Rattle.lex_semantics.specs.TableFor.{TableFor}
use Rattle.lexspec.specs.Files.{SpellsSpec}
use Rattle.lexauto.specs.declared.subsets.Limits.{Limits}
use Rattle.lextab_packed.specs.declared.flat.Flat.{Flat}
use Rattle.lextab_packed.specs.FlatViews.{tables_of}
use Rattle.lextab_packed.specs.Machines.{table_machine}
use Rattle.lexscan.specs.Pulls.{TokenisedSo}
use Rattle.lexscan_window.specs.declared.error.RunError.{RunError}
use Rattle.lexscan_window.specs.declared.error.RunError.TheVariants as runs
use Rattle.lexkit.specs.Generated.{lines_of}
use Rattle.lexkit.specs.Headline.{IsWithin, Refusal, reading}
use Rattle.lexkit.specs.declared.errors.ScanError.{ScanError}
use Rattle.lexkit.specs.declared.errors.ScanError.TheVariants.{Generate, Run, Table}
use Rattle.lexkit.specs.declared.options.Options.{Options}
use Rattle.lexlook_counts.specs.CountLines.{count_lines, ended_line}
use Rattle.lexlook_counts.specs.Costs.{CostsSo, TurnCost, tokens_in}
use Rattle.lexlook_counts.specs.Counting.{CountingStops, CountsAll}
use Rattle.lexlook_counts.specs.Counts.{IsTallyOf}
use Rattle.lexlook_counts.specs.GivenUp.{GivenUpSo, given_counts}
use Rattle.lexlook_counts.specs.Ends.{EndsSo, ended_in, exits_by, exits_last}
use Rattle.lexlook_counts.specs.Reading.{FaultsSo}
use Rattle.lexlook_counts.specs.declared.counting.Counted.{Counted}
use Rattle.lexlook_counts.specs.declared.counting.Machines.{Machines}
use Rattle.lexlook_counts.specs.declared.lines.CountForm.{CountForm}

-- a machine that is a table for a specification, whose automaton is within the limits
pub record IsMadeFor (limits : Limits) (S : Spec) (f : Flat) : Type 0 where
  pub within : IsWithin limits S
  pub table : TableFor (table_machine (tables_of f)) S

-- two of them
pub record AreMadeFor (limits : Limits) (S : Spec) (m : Machines) : Type 0 where
  pub scans : IsMadeFor limits S m.scans
  pub looks : IsMadeFor limits S m.looks

-- in which condition the end of the input was met, by the last rule and the last condition
abbrev pub ended_by : Spec → Counted → Option ℕ
ended_by S c = ended_in (exits_last (exits_by (rules_of S)) c.last) c.condition

-- the lines of the counts of a specification's scan
abbrev pub lines_for : CountForm → Spec → Counted → List ℕ
lines_for form S c =
    let names = map (λ c. c.name) S.conditions in
    count_lines form (rejects S) (lines_of S.rules) names c ++ ended_line form names (ended_by S c)

-- What the calls of the source from s to s' gave, and what those of the sink from t to t' wrote, where a machine scans
-- for a specification, and another tells how far its turns look.
module _ {A B : Type 0} (gave : A → List ℕ → A → Type 0) (ends_of reads_of : A → ℕ) (wrote : B → List ℕ → B → Type 0)
    (M N : Machine) (S : Spec) (form : CountForm) (s s' : A) (t t' : B) where
  -- the lines of the counts of all turns were written: all of them at `Ok`, and a front of them at `Err`
  pub record LinesTold (status : ℕ) (answer : Result ℕ RunError) : Type 0 where
    pub counts : Counted
    pub counted : CountsAll gave ends_of reads_of M N (length S.rules) (length S.conditions) s s' status counts.tally
        counts.given_up.items counts.last counts.condition
    pub written : Appended (λ xs. wrote t xs t') (lines_for form S counts) answer

  -- after another fault nothing was written
  abbrev pub TellsOf : Result ℕ RunError → Type 0
  TellsOf (Ok status) = LinesTold status (Ok status)
  TellsOf (Err runs.Write) = (status : ℕ) × LinesTold status (Err runs.Write)
  TellsOf (Err e) =
      CountingStops gave ends_of reads_of M N (length S.rules) (length S.conditions) s s' e × (t' ≡ t)

-- The same, where a text is the specification.
module _ {A B : Type 0} (gave : A → List ℕ → A → Type 0) (ends_of : A → ℕ) (wrote : B → List ℕ → B → Type 0)
    (s s' : A) (t t' : B) (options : Options) (form : CountForm) (text : List ℕ) where
  -- All turns of the scan by the specification that the text spells are counted, over each input that goes on as what
  -- the source gave. The lines of their counts were written: all of them at `Ok`, and a front of them at `Err`.
  pub record CountsTold (status : ℕ) (answer : Result ℕ RunError) : Type 0 where
    pub spec : Spec
    pub spells : SpellsSpec (reading options) text spec
    pub within : IsWithin options.limits spec
    pub given : List ℕ
    pub at_end : Bool
    pub costs : List TurnCost
    pub given_up : List (List ℕ)
    pub counted : Counted
    pub source : gave s given s'
    pub ends : ends_of s' ≡ ends_of s + bit_of at_end
    pub all : TokenisedSo (rules_of spec) given at_end (tokens_in costs) (Status status)
    pub looked : CostsSo (rules_of spec) given at_end costs
    pub gave_up : GivenUpSo (rules_of spec) given at_end costs given_up
    pub counts : IsTallyOf (length spec.rules) (length spec.conditions) costs counted.tally
    pub counts_given_up : counted.given_up.items ≡ given_counts (length spec.rules) (concat given_up)
    pub ended : EndsSo (rules_of spec) given at_end (ended_by spec counted)
    pub written : Appended (λ xs. wrote t xs t') (lines_for form spec counted) answer

  -- The scan stopped, and nothing was written. Where the stack of conditions is at fault, it is so in the scan by a
  -- table for the specification.
  pub record CountsStopped (e : RunError) : Type 0 where
    pub spec : Spec
    pub spells : SpellsSpec (reading options) text spec
    pub within : IsWithin options.limits spec
    pub given : List ℕ
    pub at_end : Bool
    pub source : gave s given s'
    pub ends : ends_of s' ≡ ends_of s + bit_of at_end
    pub unwritten : t' ≡ t
    pub stack : e ≡ runs.Stack → (M : Machine) × TableFor M spec × FaultsSo gave ends_of M s s'

  -- A text that is refused leaves both ends as they were.
  abbrev pub TellsCounts : Result ℕ ScanError → Type 0
  TellsCounts (Ok status) = CountsTold status (Ok status)
  TellsCounts (Err (Run runs.Write)) = (status : ℕ) × CountsTold status (Err runs.Write)
  TellsCounts (Err (Run e)) = CountsStopped e
  TellsCounts (Err (Generate e)) = Refusal options text e × (s' ≡ s) × (t' ≡ t)
  TellsCounts (Err (Table e)) = ⊥
