-- What is told of cuts of an input at its newlines. (This project's.)
use Rattle.std.specs.Prelude.{◌≡◌, ℕ, ◌<◌, Bool, true, false, List, [], ◌∷◌, ◌++◌, length, Option, Some, None, IfSome, Result, Ok, Err, codes, ⊤}
use Rattle.std.specs.List.{concat}
use Rattle.lex_io.specs.Sink.{Appended}
use Rattle.lex_semantics.specs.Spec.{Spec, Statement}
use Rattle.lex_semantics.specs.Machine.{Machine, rules_of_machine}
use Rattle.lexkit.specs.declared.options.Options.{Options}
use Rattle.lexlook_tables.specs.Lines.{ScansApart}
use Rattle.lexlook_tables.specs.Obstacles.{FirstOf, Hinders}
use Rattle.lexlook_tables.specs.declared.lines.cutting.Obstacle.{Obstacle}
use Rattle.lexlook_tables.specs.declared.lines.cutting.Obstacle.TheVariants.{Unsteady, Crosses, Strays, Copies, Writes}
use Rattle.lexlook_calls.specs.Lines.{condition_words, rule_words}
use Rattle.lexlook_calls.specs.Reasons.{straying_words, unsteady_words}
use Rattle.lexlook_calls.specs.Sides.{StandsFor, IsRefused}
use Rattle.lexlook_calls.specs.declared.error.LookError.{LookError}
use Rattle.lexlook_calls.specs.declared.error.LookError.TheVariants.{Refused, Table, OutOfMemory, Write}

-- in a condition, at a rule
abbrev pub rule_place : Option Spec → ℕ → ℕ → List ℕ
rule_place given c i = concat (codes "in " ∷ condition_words given c ∷ codes " at" ∷ rule_words given i ∷ [])

-- the line of a rule that may not stand there, by its action
abbrev pub unsteady_line : Option Spec → List Statement → ℕ → List ℕ
unsteady_line given ss i =
    concat (codes "at" ∷ rule_words given i ∷ codes ": " ∷ unsteady_words ss ∷ codes "\n" ∷ [])

-- the line of a rule that may not take a newline, by its action
abbrev pub straying_line : Option Spec → List Statement → ℕ → ℕ → List ℕ
straying_line given ss c i =
    concat (rule_place given c i ∷ codes ": after a newline " ∷ straying_words ss ∷ codes "\n" ∷ [])

-- the line of a condition in which newlines are copied
abbrev pub copying_line : Option Spec → ℕ → List ℕ
copying_line given c =
    concat (codes "in " ∷ condition_words given c ∷ codes ": a newline is copied, and the scan stays there\n" ∷ [])

-- the line of what stands against cuts of the inputs of a machine
abbrev pub obstacle_line : Machine → Option Spec → Obstacle → List ℕ
obstacle_line M given (Unsteady i) = unsteady_line given (M.statements i) i
obstacle_line M given (Crosses c i) = rule_place given c i ++ codes ": a match may go on after a newline\n"
obstacle_line M given (Strays c i) = straying_line given (M.statements i) c i
obstacle_line M given (Copies c) = copying_line given c
obstacle_line M given Writes = codes "at the end of the input something is written\n"

-- no line where there is nothing
abbrev pub cut_line : Machine → Option Spec → Option Obstacle → List ℕ
cut_line M given None = []
cut_line M given (Some o) = obstacle_line M given o

-- its condition has a name, and its rule a line
abbrev pub HasCondition : Option Spec → ℕ → Type 0
HasCondition given c = IfSome given (λ S. c < length S.conditions)

abbrev pub HasRule : Option Spec → ℕ → Type 0
HasRule given i = IfSome given (λ S. i < length S.rules)

abbrev pub CanTell : Machine → Option Spec → Obstacle → Type 0
CanTell M given (Unsteady i) = (i < M.count) × HasRule given i
CanTell M given (Crosses c i) = HasCondition given c × HasRule given i
CanTell M given (Strays c i) = (i < M.count) × HasCondition given c × HasRule given i
CanTell M given (Copies c) = HasCondition given c
CanTell M given Writes = ⊤

abbrev pub is_nothing : Option Obstacle → Bool
is_nothing None = true
is_nothing (Some o) = false

-- What was told of cuts: nothing, and then no obstacle stands there and pieces may be scanned apart; or the line of the
-- first obstacle, of which a front at `Err`.
pub record CutTold {K : Type 0} (wrote : K → List ℕ → K → Type 0) (M : Machine) (given : Option Spec) (s t : K)
    (answer : Result Bool LookError) : Type 0 where
  pub found : Option Obstacle
  pub none : found ≡ None → ScansApart (rules_of_machine M)
  pub first : FirstOf (Hinders M) found
  pub written : Appended (λ xs. wrote s xs t) (cut_line M given found) answer

-- the answer says whether no obstacle was found; where memory runs out the sink is as it was
abbrev pub CutsOf : {K : Type 0} → (K → List ℕ → K → Type 0) → Machine → Option Spec → K → K → Result Bool LookError
    → Type 0
CutsOf wrote M given s t (Ok may) = (x : CutTold wrote M given s t (Ok may)) × (may ≡ is_nothing x.found)
CutsOf wrote M given s t (Err Write) = CutTold wrote M given s t (Err Write)
CutsOf wrote M given s t (Err OutOfMemory) = t ≡ s
CutsOf wrote M given s t (Err (Refused e)) = ⊥
CutsOf wrote M given s t (Err (Table e)) = ⊥

abbrev pub IsToldOfCuts : {K : Type 0} → (K → List ℕ → K → Type 0) → Options → List ℕ → K → K → Result Bool LookError
    → Type 0
IsToldOfCuts wrote options bytes s t answer =
    (M : Machine) × (given : Option Spec) × StandsFor options bytes M given × CutsOf wrote M given s t answer

-- What was told of a file. One that is refused leaves the sink as it was.
abbrev pub TellsCuts : {K : Type 0} → (K → List ℕ → K → Type 0) → Options → List ℕ → K → K → Result Bool LookError
    → Type 0
TellsCuts wrote options bytes s t (Ok may) = IsToldOfCuts wrote options bytes s t (Ok may)
TellsCuts wrote options bytes s t (Err Write) = IsToldOfCuts wrote options bytes s t (Err Write)
TellsCuts wrote options bytes s t (Err OutOfMemory) = t ≡ s
TellsCuts wrote options bytes s t (Err (Refused e)) = IsRefused options bytes (Refused e) × (t ≡ s)
TellsCuts wrote options bytes s t (Err (Table e)) = IsRefused options bytes (Table e) × (t ≡ s)
