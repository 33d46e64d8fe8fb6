-- What is written of the files of a specification. (This project's.)
use Rattle.std.specs.Prelude.{◌≡◌, ℕ, Bool, List, flat_map, map, Result, Ok, Err}
use Rattle.lex_io.specs.Sink.{Appended}
use Rattle.lexspec_lines.specs.Lines.{without_returns}
use Rattle.lexkit.specs.Failures.{out_of_memory}
use Rattle.lexkit.specs.declared.failure.Failure.{Failure}
use Rattle.lexkit.specs.declared.failure.Failure.TheVariants as failures
use Rattle.lexkit.specs.declared.options.Options.{Options}
use Rattle.lexlook_check.specs.CheckLines.{finding_lines}
use Rattle.lexlook_check.specs.Checks.{IsChecked, is_well}
use Rattle.lexlook_check.specs.Findings.{AreInOrder, findings_of, known_lines}
use Rattle.lexlook_check.specs.JsonLines.{finding_json}
use Rattle.lexlook_check.specs.Places.{joined_text, own_line}
use Rattle.lexlook_check.specs.Takings.{TakenTexts, taking_of}
use Rattle.lexlook_check.specs.declared.checking.Checked.{Checked}
use Rattle.lexlook_check.specs.declared.error.CheckError.{CheckError}
use Rattle.lexlook_check.specs.declared.error.CheckError.TheVariants.{OutOfMemory, Write}
use Rattle.lexlook_check.specs.declared.findings.Finding.{Finding}
use Rattle.lexlook_check.specs.declared.places.SourceFile.{SourceFile}
use Rattle.lexlook_check.specs.declared.telling.Form.{Form}
use Rattle.lexlook_check.specs.declared.telling.Form.TheVariants.{Json, Lines}

-- what was found of a text, as lines or as objects of JSON
abbrev pub told_bytes : Form → List SourceFile → List ℕ → List TakenTexts → List Finding → List ℕ
told_bytes Lines files text ts findings = flat_map (finding_lines files text ts) findings
told_bytes Json files text ts findings = flat_map (finding_json files text ts) findings

-- these bytes are to be written of what was found of a text: all of it, in order of place
pub record AreBytesOf (form : Form) (files : List SourceFile) (text : List ℕ) (checked : Checked)
    (bytes : List ℕ) : Type 0 where
  pub told : List Finding
  pub in_order : AreInOrder (findings_of (known_lines (without_returns text)) checked) told
  pub bytes_are : bytes ≡ told_bytes form files (without_returns text) (map taking_of checked.takings.items) told

-- of files these bytes are to be written: all that was found, in order of place
pub record IsTellingOf (options : Options) (form : Form) (strict : Bool) (files : List SourceFile) (bytes : List ℕ)
    (checked : Checked) : Type 0 where
  pub is_checked : IsChecked options (own_line files) strict (joined_text files) checked
  pub told : List Finding
  pub in_order : AreInOrder (findings_of (known_lines (without_returns (joined_text files))) checked) told
  pub bytes_are : bytes
      ≡ told_bytes form files (without_returns (joined_text files)) (map taking_of checked.takings.items) told

-- what was found was written: all of it at `Ok`, a front of it at `Err`
pub record CheckTold {K : Type 0} (wrote : K → List ℕ → K → Type 0) (options : Options) (form : Form)
    (strict : Bool) (files : List SourceFile) (s t : K) (answer : Result Bool CheckError) : Type 0 where
  pub checked : Checked
  pub bytes : List ℕ
  pub telling : IsTellingOf options form strict files bytes checked
  pub written : Appended (λ xs. wrote s xs t) bytes answer

-- What was told of files: the answer says whether nothing is wrong. Where memory runs out the sink is as it was.
abbrev pub TellsCheck : {K : Type 0} → (K → List ℕ → K → Type 0) → Options → Form → Bool → List SourceFile → K → K
    → Result Bool CheckError → Type 0
TellsCheck wrote options form strict files s t (Ok well) =
    (x : CheckTold wrote options form strict files s t (Ok well)) × (well ≡ is_well x.checked)
TellsCheck wrote options form strict files s t (Err Write) = CheckTold wrote options form strict files s t (Err Write)
TellsCheck wrote options form strict files s t (Err OutOfMemory) = t ≡ s

-- 1 where the answer is a write fault
abbrev pub check_fault_count : Result Bool CheckError → ℕ
check_fault_count (Ok well) = 0
check_fault_count (Err Write) = 1
check_fault_count (Err OutOfMemory) = 0

-- how the program reports it
abbrev pub failure_told : CheckError → Failure
failure_told OutOfMemory = out_of_memory
failure_told Write = failures.Output
