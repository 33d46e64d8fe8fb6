-- What the reader of lex promises, put together.
use Rattle.lexre_bytes.specs.Memory.{UnlessMemory}
use Rattle.lexre_bytes.specs.declared.refusals.SpecErrorKind.{SpecErrorKind}
use Rattle.lexre_bytes.specs.declared.refusals.SpecErrorKind.TheVariants as kinds

pub all_unless : (k : SpecErrorKind) (A B C D : Type 0) → UnlessMemory k A → UnlessMemory k B → UnlessMemory k C → UnlessMemory k D → UnlessMemory k (A × B × C × D)
all_unless kinds.OutOfMemory A B C D a b c d = tt
all_unless (kinds.Pattern e) A B C D a b c d = λ off. (a off, b off, c off, d off)
all_unless _ A B C D a b c d = (a, b, c, d)
