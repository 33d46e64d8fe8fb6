-- The suite of a specification: inputs with what their scans do, which go over the edges of its automaton. (POSIX, lex,
-- Rules in lex and Actions in lex: what a scan does; the rest is this project's.)
use Rattle.std.specs.Prelude.{◌≡◌, ℕ, ◌-◌, List, length, map, take, Result, Ok, Err}
use Rattle.lex_io.specs.Sink.{Appended}
use Rattle.lex_semantics.specs.Rules.{rules_of}
use Rattle.lex_semantics.specs.Spec.{Spec}
use Rattle.lexauto_dfa.specs.Automata.{lists_of}
use Rattle.lexauto_dfa.specs.declared.dfa.Dfa.{Dfa}
use Rattle.lexauto_dfa.specs.declared.dfa.Parts.{Parts}
use Rattle.lexspec.specs.Files.{SpellsSpec}
use Rattle.lexscan_window.specs.declared.error.RunError.TheVariants as runs
use Rattle.lexkit.specs.Headline.{Refusal, reading}
use Rattle.lexkit.specs.LeastAutomata.{IsLeastOf}
use Rattle.lexkit.specs.declared.errors.ScanError.{ScanError}
use Rattle.lexkit.specs.declared.errors.ScanError.TheVariants.{Generate, Run, Table}
use Rattle.lexkit.specs.declared.options.Options.{Options}
use Rattle.lexlook_suites.specs.Covers.{line_limit}
use Rattle.lexlook_suites.specs.Edges.{all_edges}
use Rattle.lexlook_suites.specs.Inputs.{AreInputs, AreMarksOf, GoesOverAll}
use Rattle.lexlook_suites.specs.SuiteLines.{left_lines, suite_lines}
use Rattle.lexlook_suites.specs.Texts.{AreTexts, unwalked}
use Rattle.lexlook_suites.specs.Told.{Stops}
use Rattle.lexlook_suites.specs.declared.marks.Marks.{Marks}
use Rattle.lexlook_suites.specs.declared.suite_lines.Suite.{Suite}
use Rattle.lexlook_suites.specs.declared.texts.Missed.{Missed}

-- the edges that no input goes over, by these marks: lines of the first, with texts, and how many more there are
pub record TellsLeft (S : Spec) (p : Parts) (m : Marks) (left : List ℕ) : Type 0 where
  pub missed : List Missed
  pub missed_are : AreTexts p (take line_limit (unwalked (all_edges p m (length S.rules)))) missed
  pub lines : left ≡ left_lines (map (λ c. c.name) S.conditions) missed
      (length (unwalked (all_edges p m (length S.rules))) - line_limit)

-- By the rules of the specification each input is scanned so. Its inputs go over all edges that texts lead over from
-- the first start, but where scans stop; and the edges that none goes over are told.
pub record IsSuiteOf (S : Spec) (p : Parts) (s : Suite) : Type 0 where
  pub inputs : AreInputs (rules_of S) s.inputs.items
  pub all : GoesOverAll p (λ v. Stops S v runs.Stack) s.inputs.items
  pub marks : Marks
  pub marked : AreMarksOf p s.inputs.items marks
  pub left : TellsLeft S p marks s.left.items
  pub names : map (λ v. v.items) s.names.items ≡ map (λ c. c.name) S.conditions

-- The text spells a specification, and this is the suite of its least automaton.
pub record SuiteMade (options : Options) (text : List ℕ) (s : Suite) : Type 0 where
  pub spec : Spec
  pub spells : SpellsSpec (reading options) text spec
  pub subsets : ℕ
  pub automaton : Dfa
  pub least : IsLeastOf options.limits spec subsets automaton
  pub is_suite : IsSuiteOf spec (lists_of automaton) s

-- What calls of a sink from t to t' wrote: the lines of the suite, all of them at `Ok` and a front of them where a
-- write failed. A text that is refused leaves the sink as it was.
module _ {B : Type 0} (wrote : B → List ℕ → B → Type 0) (t t' : B) (options : Options) (text : List ℕ) where
  abbrev pub SuiteTold : Result (Unit {0}) ScanError → Type 0
  SuiteTold answer = (s : Suite) × SuiteMade options text s × Appended (λ xs. wrote t xs t') (suite_lines s) answer

  abbrev pub TellsSuite : Result (Unit {0}) ScanError → Type 0
  TellsSuite (Ok done) = SuiteTold (Ok done)
  TellsSuite (Err (Run runs.Write)) = SuiteTold (Err (Run runs.Write))
  TellsSuite (Err (Run e)) = ⊥
  TellsSuite (Err (Generate e)) = Refusal options text e × (t' ≡ t)
  TellsSuite (Err (Table e)) = ⊥
