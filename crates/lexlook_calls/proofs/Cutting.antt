-- What stands against cuts has names and lines.
use Rattle.std.proofs.Common.{◌≡◌, ℕ, ◌<◌, List, Bool, Result, Ok, Err, Option, Some, None, arith}
use Rattle.std.specs.Prelude.{IfSome}
use Rattle.lex_semantics.specs.Spec.{Spec}
use Rattle.lex_semantics.specs.Machine.{Machine}
use Rattle.lex_semantics.specs.MachineLaws.{MachineLaws}
use Rattle.lexlook_tables.specs.Obstacles.{FirstOf, Hinders}
use Rattle.lexlook_tables.specs.declared.lines.cutting.Obstacle.{Obstacle}
use Rattle.lexlook_tables.specs.declared.lines.cutting.Obstacle.TheVariants.{Unsteady, Crosses, Strays, Copies, Writes}
use Rattle.lexlook_calls.specs.Lines.{Side, IsLabelled}
use Rattle.lexlook_calls.specs.Cuts.{HasCondition, HasRule, CanTell, CutsOf, TellsCuts}
use Rattle.lexlook_calls.specs.Sides.{StandsFor}
use Rattle.lexlook_calls.specs.declared.error.LookError.{LookError}
use Rattle.lexlook_calls.specs.declared.error.LookError.TheVariants.{Refused, Table, OutOfMemory, Write}
use Rattle.lexkit.specs.declared.options.Options.{Options}

module _ (a : Side) (laws : MachineLaws a.machine) where
  has_condition : (g : Option Spec) → IsLabelled (record { name = a.name; machine = a.machine; given = g }) → (c : ℕ) → c < a.machine.conditions → HasCondition g c
  has_condition None l c lt = tt
  has_condition (Some S) l c lt = (let e = l.0 in omega (arith, e, lt))

  has_rule : (g : Option Spec) → IsLabelled (record { name = a.name; machine = a.machine; given = g }) → (i : ℕ) → i < a.machine.count → HasRule g i
  has_rule None l i lt = tt
  has_rule (Some S) l i lt = (let e = l.1 in omega (arith, e, lt))

  -- the condition in which it stands
  below : (c d : ℕ) → d ≡ c → c < a.machine.conditions → d < a.machine.conditions
  below c d e lt = omega (arith, e, lt)

  can_tell : IsLabelled a → (o : Obstacle) (k : List ℕ) → Hinders a.machine o k → CanTell a.machine a.given o
  can_tell l (Unsteady i) k h = (h.1.0, has_rule a.given l i h.1.0)
  can_tell l (Crosses d i) k h = (has_condition a.given l d (below h.0 d h.3.4.0 h.1), has_rule a.given l i (laws.in_range _ i h.3.4.2.1.3))
  can_tell l (Strays d i) k h = (laws.in_range _ i h.3.4.2.0, has_condition a.given l d (below h.0 d h.3.4.0 h.1), has_rule a.given l i (laws.in_range _ i h.3.4.2.0))
  can_tell l (Copies d) k h = has_condition a.given l d (below h.0 d h.3.0 h.1)
  can_tell l Writes k h = tt

  pub can_tell_some : IsLabelled a → (o : Option Obstacle) → FirstOf (Hinders a.machine) o → IfSome o (CanTell a.machine a.given)
  can_tell_some l None h = tt
  can_tell_some l (Some o) h = can_tell l o h.0 h.1

-- what is told of what a file stands for is told of the file
pub told_of_file : {K : Type 0} (wrote : K → List ℕ → K → Type 0) (options : Options) (bytes : List ℕ) (M : Machine) (given : Option Spec) (s t : K) (answer : Result Bool LookError) →
    StandsFor options bytes M given → CutsOf wrote M given s t answer → TellsCuts wrote options bytes s t answer
told_of_file wrote options bytes M given s t (Ok may) stands told = (M, given, stands, told)
told_of_file wrote options bytes M given s t (Err Write) stands told = (M, given, stands, told)
told_of_file wrote options bytes M given s t (Err OutOfMemory) stands told = told
told_of_file wrote options bytes M given s t (Err (Refused e)) stands told = absurd told
told_of_file wrote options bytes M given s t (Err (Table e)) stands told = absurd told
