-- What a scan that tells its matches leaves. (flex, Scanner Options: `-d`. What is taken from the source, the limits
-- and the refusals are this project's.)
use Rattle.std.specs.Prelude.{◌≡◌, ℕ, Bool, true, List, Result, Ok, Err, ⊤}
use Rattle.lex_semantics.specs.Rules.{rules_of}
use Rattle.lex_semantics.specs.Spec.{Spec}
use Rattle.lexkit.specs.Headline.{BuildRefusal, IsWithin, Scans, reading}
use Rattle.lexkit.specs.declared.errors.GenError.{GenError}
use Rattle.lexkit.specs.declared.errors.GenError.TheVariants as gens
use Rattle.lexkit.specs.declared.errors.ScanError.{ScanError}
use Rattle.lexkit.specs.declared.errors.ScanError.TheVariants as scans
use Rattle.lexkit.specs.declared.options.Options.{Options}
use Rattle.lexlook_specs.specs.Traced.{has_room, traced}
use Rattle.lexlook_specs.specs.TraceLaw.{TellsRuns, TellsTurns}
use Rattle.lexscan_window.specs.declared.error.RunError.{RunError}
use Rattle.lexspec.specs.Files.{SpellsSpec}
use Rattle.lexspec.specs.Outcome.{UnlessMemory}

-- the text spells the specification, which has room for the lines
abbrev pub SpellsWithRoom : Options → List ℕ → Spec → Type 0
SpellsWithRoom options text S = SpellsSpec (reading options) text S × (has_room S ≡ true)

-- A text is refused only where it spells no specification with room, or the automaton of the one that tells passes a
-- limit, or memory ran out.
abbrev pub TraceRefusal : Options → List ℕ → GenError → Type 0
TraceRefusal options text (gens.Spec e) = UnlessMemory e.kind ((S : Spec) → SpellsWithRoom options text S → ⊥)
TraceRefusal options text (gens.Build e) =
    (S : Spec) × SpellsWithRoom options text S × BuildRefusal options.limits (traced S) e
TraceRefusal options text gens.OutOfMemory = ⊤

-- What the calls of the source from s to s' give, and what those of the sink from t to t' write; whether the source has
-- answered its end, and how often it failed.
module _ {A B : Type 0} (gave : A → List ℕ → A → Type 0) (wrote : B → List ℕ → B → Type 0) (s s' : A) (t t' : B)
    (at_end : Bool) (faults : ℕ) where
  -- The scan is that of the specification that tells, and writes the lines of the matches of the one that the text
  -- spells.
  pub record Traced (options : Options) (text : List ℕ) (answer : Result ℕ RunError) : Type 0 where
    pub spec : Spec
    pub spells : SpellsWithRoom options text spec
    pub within : IsWithin options.limits (traced spec)
    pub scans : Scans gave wrote s s' t t' at_end faults (rules_of (traced spec)) answer
    pub turns : TellsTurns spec
    pub runs : TellsRuns spec

  -- A text that is refused leaves both ends as they were.
  abbrev pub Traces : Options → List ℕ → Result ℕ ScanError → Type 0
  Traces options text (Ok status) = Traced options text (Ok status)
  Traces options text (Err (scans.Run e)) = Traced options text (Err e)
  Traces options text (Err (scans.Generate e)) = TraceRefusal options text e × (s' ≡ s) × (t' ≡ t)
  Traces options text (Err (scans.Table e)) = ⊥
