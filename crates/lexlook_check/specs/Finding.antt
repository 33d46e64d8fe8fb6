-- Every fault of a text. (This project's: lex tells the first alone.)
use Rattle.std.specs.Prelude.{◌≡◌, ◌≢◌, ℕ, ◌-◌, ◌≤◌, false, List, [], ◌∷◌, Option, Some, None, Result, Ok, Err}
use Rattle.lex_semantics.specs.Spec.{Spec}
use Rattle.lexre.specs.declared.options.ReadOptions.{ReadOptions}
use Rattle.lexre_bytes.specs.declared.refusals.SpecError.{SpecError}
use Rattle.lexre_bytes.specs.Memory.{UnlessMemory}
use Rattle.lexspec.specs.Files.{SpellsSpec}
use Rattle.lexspec.specs.FaultLines.{TellsDefinitions, TellsLength, TellsRules}
use Rattle.lexkit.specs.Faults.{lacks_memory}
use Rattle.lexlook_check.specs.Leaving.{without_rule_at}

-- a text is told 100 faults of at most
abbrev pub max_faults : ℕ
max_faults = 100

-- The faults of a text, n at most, by what a reader answers: the first, and then those of the text without its rule.
-- Where nothing can be left out, the fault is the last. And the text that is left, where the reader takes it.
abbrev pub AreFaultsOf : (List ℕ → Result (Unit {0}) SpecError → Type 0) → ℕ → List ℕ → List SpecError → Option (List ℕ)
    → Type 0
AreFaultsOf reads n text [] (Some left) = (left ≡ text) × reads text (Ok tt)
AreFaultsOf reads n text [] None = n ≡ 0
AreFaultsOf reads n text (e ∷ es) left =
    (1 ≤ n) × reads text (Err e) × (lacks_memory e.kind ≡ false)
    × (without_rule_at e.line text ≡ text → (es ≡ []) × (left ≡ None))
    × (without_rule_at e.line text ≢ text → AreFaultsOf reads (n - 1) (without_rule_at e.line text) es left)

-- the text spells no specification, and this is its first fault
abbrev pub TellsFirst : ReadOptions → List ℕ → SpecError → Type 0
TellsFirst how text e = ((S : Spec) → SpellsSpec how text S → ⊥)
    × TellsLength text e × TellsDefinitions text e × TellsRules how text e

-- what `read_spec` promises of a text
abbrev pub ReadsSpec : ReadOptions → List ℕ → Result (Unit {0}) SpecError → Type 0
ReadsSpec how text (Ok v) = (S : Spec) × SpellsSpec how text S
ReadsSpec how text (Err e) = UnlessMemory e.kind (TellsFirst how text e)
