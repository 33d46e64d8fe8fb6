-- What is told of two files. (This project's.)
use Rattle.std.specs.Prelude.{◌≡◌, ◌⊎◌, ℕ, Bool, true, false, List, Result, Ok, Err}
use Rattle.lex_io.specs.Sink.{Appended}
use Rattle.lexlook_tables.specs.Comparing.{Compares}
use Rattle.lexlook_tables.specs.declared.same.tables.Comparison.{Comparison}
use Rattle.lexlook_tables.specs.declared.same.tables.Comparison.TheVariants.{Same, Conditions, Ends, Texts}
use Rattle.lexkit.specs.declared.options.Options.{Options}
use Rattle.lexlook_calls.specs.Lines.{Side, told_line}
use Rattle.lexlook_calls.specs.Naming.{ArePaired}
use Rattle.lexlook_calls.specs.Sides.{StandsFor, IsRefused}
use Rattle.lexlook_calls.specs.declared.same.Given.{Given}
use Rattle.lexlook_calls.specs.declared.error.LookError.{LookError}
use Rattle.lexlook_calls.specs.declared.error.LookError.TheVariants.{Refused, Table, OutOfMemory, Write}

-- This holds of two files whose conditions are paired so. Their conditions are told to differ if no pairing leaves as
-- many.
abbrev pub HoldsOfSides : Side → Side → List ℕ → Comparison → Type 0
HoldsOfSides a b order Same = ArePaired a.given b.given order × Compares order a.machine b.machine Same
HoldsOfSides a b order Conditions =
    (o : List ℕ) → ArePaired a.given b.given o → a.machine.conditions ≡ b.machine.conditions → ⊥
HoldsOfSides a b order (Ends c) = ArePaired a.given b.given order × Compares order a.machine b.machine (Ends c)
HoldsOfSides a b order (Texts d) = ArePaired a.given b.given order × Compares order a.machine b.machine (Texts d)

-- the file is this one
pub record IsSideOf (options : Options) (g : Given) (a : Side) : Type 0 where
  pub name : a.name ≡ g.name.now
  pub stands : StandsFor options g.bytes.now a.machine a.given

abbrev pub is_same : Comparison → Bool
is_same Same = true
is_same Conditions = false
is_same (Ends c) = false
is_same (Texts d) = false

-- What was told of two files: nothing where they do the same, and else the line; of it a front at `Err`.
pub record Says {K : Type 0} (wrote : K → List ℕ → K → Type 0) (a b : Side) (s t : K)
    (answer : Result Bool LookError) : Type 0 where
  pub order : List ℕ
  pub told : Comparison
  pub holds : HoldsOfSides a b order told
  pub written : Appended (λ xs. wrote s xs t) (told_line a b order told) answer

-- the answer says whether they do the same; where memory runs out the sink is as it was
abbrev pub SaysOf : {K : Type 0} → (K → List ℕ → K → Type 0) → Side → Side → K → K → Result Bool LookError → Type 0
SaysOf wrote a b s t (Ok same) = (x : Says wrote a b s t (Ok same)) × (same ≡ is_same x.told)
SaysOf wrote a b s t (Err Write) = Says wrote a b s t (Err Write)
SaysOf wrote a b s t (Err OutOfMemory) = t ≡ s
SaysOf wrote a b s t (Err (Refused e)) = ⊥
SaysOf wrote a b s t (Err (Table e)) = ⊥

abbrev pub IsToldOf : {K : Type 0} → (K → List ℕ → K → Type 0) → Options → Given → Given → K → K → Result Bool LookError
    → Type 0
IsToldOf wrote options g h s t answer =
    (a b : Side) × IsSideOf options g a × IsSideOf options h b × SaysOf wrote a b s t answer

-- The first file was refused rightly, or the first stands for a machine and the second was.
abbrev pub IsFirstRefused : Options → Given → Given → LookError → Type 0
IsFirstRefused options g h e =
    IsRefused options g.bytes.now e ⊎ ((a : Side) × IsSideOf options g a × IsRefused options h.bytes.now e)

-- What was told of two files, and whether they do the same. Files that are refused leave the sink as it was.
abbrev pub TellsSame : {K : Type 0} → (K → List ℕ → K → Type 0) → Options → Given → Given → K → K
    → Result Bool LookError → Type 0
TellsSame wrote options g h s t (Ok same) = IsToldOf wrote options g h s t (Ok same)
TellsSame wrote options g h s t (Err Write) = IsToldOf wrote options g h s t (Err Write)
TellsSame wrote options g h s t (Err OutOfMemory) = t ≡ s
TellsSame wrote options g h s t (Err (Refused e)) = IsFirstRefused options g h (Refused e) × (t ≡ s)
TellsSame wrote options g h s t (Err (Table e)) = IsFirstRefused options g h (Table e) × (t ≡ s)
