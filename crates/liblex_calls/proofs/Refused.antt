-- A refusal with another number than 0 is none for want of memory.
use Rattle.std.proofs.Common.{◌≡◌, refl, ap}
use Rattle.lexspec.specs.Outcome.{UnlessMemory}
use Rattle.lexre_bytes.specs.declared.refusals.SpecErrorKind.{SpecErrorKind}
use Rattle.lexre_bytes.specs.declared.refusals.SpecErrorKind.TheVariants as kinds
use Rattle.liblex_calls.specs.Kinds.{kind_number, pattern_number}

pub not_memory : (kind : SpecErrorKind) (F : Type 0) → (kind_number kind ≡ 0 → ⊥) → UnlessMemory kind F → F
not_memory (kinds.Pattern e) F other h = h (λ same. other (ap pattern_number same))
not_memory kinds.NoRulesSection F other h = h
not_memory kinds.BadDefinitionLine F other h = h
not_memory kinds.DuplicateName F other h = h
not_memory kinds.DuplicateCondition F other h = h
not_memory kinds.UnknownCondition F other h = h
not_memory kinds.VariableTrailing F other h = h
not_memory kinds.TwoTrailing F other h = h
not_memory kinds.AnchoredDefinition F other h = h
not_memory kinds.BadEofRule F other h = h
not_memory kinds.DuplicateEof F other h = h
not_memory kinds.UnknownStatement F other h = h
not_memory kinds.LessAndMore F other h = h
not_memory kinds.RejectCombination F other h = h
not_memory kinds.NotLast F other h = h
not_memory kinds.BadEofAction F other h = h
not_memory kinds.BadCount F other h = h
not_memory kinds.BadStatus F other h = h
not_memory kinds.Unclosed F other h = h
not_memory kinds.DanglingBar F other h = h
not_memory kinds.UnsupportedOption F other h = h
not_memory kinds.TooManyRules F other h = h
not_memory kinds.TooManyConditions F other h = h
not_memory kinds.TooLong F other h = h
not_memory kinds.OutOfMemory F other h = absurd (other refl)
