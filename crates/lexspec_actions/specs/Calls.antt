-- What the readers of calls answer.
use Rattle.std.specs.Prelude.{◌≡◌, ℕ, List, Option, Some, None, Result, Ok, Err, option_map}
use Rattle.lexspec_actions.specs.ActionSteps.{Said, does}
use Rattle.lex_semantics.specs.Spec.{Begin, Push}
use Rattle.lexspec_actions.specs.Views.{said_of}
use Rattle.lexspec_actions.specs.Outcome.{UnlessMemory}
use Rattle.lexre_bytes.specs.declared.refusals.SpecErrorKind.{SpecErrorKind}
use Rattle.lexspec_actions.specs.declared.statement.Called.{Called}

abbrev pub with_rest : {A : Type 0} → List ℕ → A → A × List ℕ
with_rest rest x = (x, rest)

-- a call is read if it says something; nothing is read where its argument is faulty
abbrev pub said_by_call : Called → Option Said
said_by_call (Called.Says s) = Some (said_of s)
said_by_call Called.BadCount = None
said_by_call Called.BadStatus = None
said_by_call Called.UnknownCondition = None

abbrev pub CallReads : {X : Type 0} → (X → Called) → (X → List ℕ) → Result X SpecErrorKind → Option (Said × List ℕ)
    → Type 0
CallReads called rest (Ok x) read = read ≡ option_map (with_rest (rest x)) (said_by_call (called x))
CallReads called rest (Err e) read = UnlessMemory e (read ≡ None)

-- the same of a reader that takes no memory
abbrev pub CallFinds : {X : Type 0} → (X → Called) → (X → List ℕ) → Option X → Option (Said × List ℕ) → Type 0
CallFinds called rest (Some x) read = read ≡ option_map (with_rest (rest x)) (said_by_call (called x))
CallFinds called rest None read = read ≡ None

-- a condition is read if it is declared
abbrev pub ConditionReads : {X : Type 0} → (X → Option ℕ) → (X → List ℕ) → Option X → Option (ℕ × List ℕ) → Type 0
ConditionReads number rest (Some x) read = read ≡ option_map (with_rest (rest x)) (number x)
ConditionReads number rest None read = read ≡ None

abbrev pub BeginReads : Option ℕ → Called → Type 0
BeginReads number called = said_by_call called ≡ option_map (λ n. does (Begin n)) number

abbrev pub PushReads : Option ℕ → Called → Type 0
PushReads number called = said_by_call called ≡ option_map (λ n. does (Push n)) number
