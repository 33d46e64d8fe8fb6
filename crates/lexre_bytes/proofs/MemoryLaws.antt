-- What follows from a refusal, unless memory ran out.
use Rattle.lexre_bytes.specs.declared.refusals.SpecErrorKind.{SpecErrorKind}
use Rattle.lexre_bytes.specs.declared.refusals.SpecErrorKind.TheVariants as K
use Rattle.lexre_bytes.specs.Memory.{UnlessMemory}

-- what follows from the fact follows unless memory ran out
pub unless_memory : (kind : SpecErrorKind) (F G : Type 0) → (F → G) → UnlessMemory kind F → UnlessMemory kind G
unless_memory K.OutOfMemory F G f h = tt
unless_memory (K.Pattern e) F G f h = λ none. f (h none)
unless_memory _ F G f h = f h

-- what holds in any case
pub always : (kind : SpecErrorKind) (F : Type 0) → F → UnlessMemory kind F
always K.OutOfMemory F h = tt
always (K.Pattern e) F h = λ none. h
always _ F h = h
