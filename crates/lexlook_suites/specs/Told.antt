-- What telling what the matches of an input go through leaves. (POSIX, lex, Rules in lex: which matches these are; the
-- rest is this project's.)
use Rattle.std.specs.Prelude.{◌≡◌, ℕ, List, length, map, Result, Ok, Err}
use Rattle.lex_io.specs.Sink.{Appended}
use Rattle.lex_semantics.specs.Acting.{Status}
use Rattle.lex_semantics.specs.Machine.{Machine, rules_of_machine}
use Rattle.lex_semantics.specs.Rules.{rules_of}
use Rattle.lex_semantics.specs.Spec.{Spec}
use Rattle.lex_semantics.specs.TableFor.{TableFor}
use Rattle.lexauto_dfa.specs.Automata.{lists_of}
use Rattle.lexauto_dfa.specs.declared.dfa.Dfa.{Dfa}
use Rattle.lexauto_dfa.specs.declared.dfa.Parts.{Parts}
use Rattle.lexspec.specs.Files.{SpellsSpec}
use Rattle.lexscan.specs.Tokens.{Stopped, Tokenised}
use Rattle.lexscan.specs.declared.token.Token.{Token}
use Rattle.lexscan_window.specs.declared.error.RunError.{RunError}
use Rattle.lexscan_window.specs.declared.error.RunError.TheVariants as runs
use Rattle.lexkit.specs.Generated.{lines_of}
use Rattle.lexkit.specs.Headline.{Refusal, reading}
use Rattle.lexkit.specs.LeastAutomata.{IsLeastOf}
use Rattle.lexkit.specs.declared.errors.ScanError.{ScanError}
use Rattle.lexkit.specs.declared.errors.ScanError.TheVariants.{Generate, Run, Table}
use Rattle.lexkit.specs.declared.options.Options.{Options}
use Rattle.lexlook_suites.specs.CoverLines.{cover_lines}
use Rattle.lexlook_suites.specs.Covers.{IsCoverOf}
use Rattle.lexlook_suites.specs.Turns.{AreMarks}
use Rattle.lexlook_suites.specs.declared.covering.Cover.{Cover}
use Rattle.lexlook_suites.specs.declared.marks.Marks.{Marks}
use Rattle.lexlook_suites.specs.declared.telling.Scanned.{Scanned}

-- all tokens of an input by a specification, and the status with which its scan ends
abbrev pub IsScannedBy : Spec → List ℕ → Scanned → Type 0
IsScannedBy S x scanned = Tokenised (rules_of S) x scanned.tokens.items (Status scanned.status)

-- the scan of an input stops: where the stack of conditions is at fault, it is so in the scan by a table for the
-- specification
pub record Stops (S : Spec) (x : List ℕ) (e : RunError) : Type 0 where
  pub stack : e ≡ runs.Stack
      → (M : Machine) × TableFor M S × (us : List Token) × Stopped (rules_of_machine M) x us runs.Stack
  pub not_write : e ≡ runs.Write → ⊥

-- the lines of what the turns of these tokens of an input go through, of a specification and its least automaton
pub record IsTextOf (S : Spec) (p : Parts) (x : List ℕ) (us : List Token) (text : List ℕ) : Type 0 where
  pub marks : Marks
  pub walked : AreMarks p x us marks
  pub cover : Cover
  pub is_cover : IsCoverOf p marks (length S.rules) cover
  pub lines : text ≡ cover_lines (map (λ c. c.name) S.conditions) (lines_of S.rules) (length S.rules) cover

-- what calls of a sink from t to t' wrote
module _ {B : Type 0} (wrote : B → List ℕ → B → Type 0) where
  -- the lines of what all matches of the input go through were written: all of them at `Ok`, and a front of them at
  -- `Err`
  pub record LinesTold (S : Spec) (p : Parts) (x : List ℕ) (t t' : B) (status : ℕ)
      (answer : Result ℕ RunError) : Type 0 where
    pub tokens : List Token
    pub all : Tokenised (rules_of S) x tokens (Status status)
    pub text : List ℕ
    pub is_text : IsTextOf S p x tokens text
    pub written : Appended (λ xs. wrote t xs t') text answer

  -- after another fault nothing was written
  abbrev pub TellsOf : Spec → Parts → List ℕ → B → B → Result ℕ RunError → Type 0
  TellsOf S p x t t' (Ok status) = LinesTold S p x t t' status (Ok status)
  TellsOf S p x t t' (Err runs.Write) = (status : ℕ) × LinesTold S p x t t' status (Err runs.Write)
  TellsOf S p x t t' (Err e) = Stops S x e × (t' ≡ t)

  -- The same of the specification that a text spells, and of its least automaton.
  pub record CoverTold (options : Options) (text x : List ℕ) (t t' : B) (answer : Result ℕ RunError) : Type 0 where
    pub spec : Spec
    pub spells : SpellsSpec (reading options) text spec
    pub subsets : ℕ
    pub automaton : Dfa
    pub least : IsLeastOf options.limits spec subsets automaton
    pub told : TellsOf spec (lists_of automaton) x t t' answer

  -- A text that is refused leaves the sink as it was.
  abbrev pub TellsCover : B → B → Options → List ℕ → List ℕ → Result ℕ ScanError → Type 0
  TellsCover t t' options text x (Ok status) = CoverTold options text x t t' (Ok status)
  TellsCover t t' options text x (Err (Run e)) = CoverTold options text x t t' (Err e)
  TellsCover t t' options text x (Err (Generate e)) = Refusal options text e × (t' ≡ t)
  TellsCover t t' options text x (Err (Table e)) = ⊥
