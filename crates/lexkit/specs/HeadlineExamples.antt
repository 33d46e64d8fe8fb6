-- Worked examples of the headline: the scan of the input `if x` by the file of the rule `if printf("K");`. Its run
-- writes `K x`.
use Rattle.std.specs.Prelude.{◌≡◌, ℕ, Bool, true, false, List, [], ◌++◌, Result, Ok, Err, codes}
use Rattle.lex_semantics.specs.Text.{BeginsWith}
use Rattle.lex_semantics.specs.Limits.{max_positions, max_states}
use Rattle.lexspec.specs.Outcome.{UnlessMemory}
use Rattle.lexspec.specs.Refusals.SpecError.{SpecError}
use Rattle.lexspec.specs.SpecExamples.{key_file}
use Rattle.lexauto.specs.declared.error.BuildError.TheVariants as builds
use Rattle.lexscan_window.specs.declared.error.RunError.{RunError}
use Rattle.lexkit.specs.declared.options.Options.{Options}
use Rattle.lexkit.specs.declared.errors.GenError.TheVariants as gens
use Rattle.lexkit.specs.declared.errors.ScanError.{ScanError}
use Rattle.lexkit.specs.declared.errors.ScanError.TheVariants as scans
use Rattle.lexkit.specs.Headline.{Headline}

abbrev pub as_they_stand : Options
as_they_stand =
    record { fold = false; posix = false; limits = record { positions = max_positions; states = max_states } }

-- a source is what it has still to give, and a sink is what it was given
abbrev pub gave : List ℕ → List ℕ → List ℕ → Type 0
gave before bytes after = before ≡ bytes ++ after

abbrev pub wrote : List ℕ → List ℕ → List ℕ → Type 0
wrote before bytes after = after ≡ before ++ bytes

-- what the headline says where this is left of the input, and this was written
abbrev pub KeyScan : (left written : List ℕ) (at_end : Bool) (faults : ℕ) → Result ℕ ScanError → Type 0
KeyScan left written at_end faults answer =
    Headline gave wrote (codes "if x") left [] written at_end faults as_they_stand key_file answer

-- Where all came and nothing failed, `K x` was written, with status 0. Where a read or a write failed, a front of it
-- was written. The file is not refused, want of memory aside.
pub record HeadlineOfKey : Type 0 where
  pub ends : (written : List ℕ) (faults status : ℕ) → KeyScan [] written true faults (Ok status)
      → (written ≡ codes "K x") × (status ≡ 0)
  pub stops : (left written : List ℕ) (at_end : Bool) (faults : ℕ) (e : RunError) → (at_end ≡ true → left ≡ [])
      → KeyScan left written at_end faults (Err (scans.Run e)) → BeginsWith (codes "K x") written
  pub reads : (left written : List ℕ) (at_end : Bool) (faults : ℕ) (e : SpecError)
      → KeyScan left written at_end faults (Err (scans.Generate (gens.Spec e))) → UnlessMemory e.kind ⊥
  pub fits : (left written : List ℕ) (at_end : Bool) (faults : ℕ)
      → KeyScan left written at_end faults (Err (scans.Generate (gens.Build builds.TooManyPositions))) → ⊥
