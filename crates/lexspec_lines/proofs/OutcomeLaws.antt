-- What a result says.
use Rattle.std.specs.Prelude.{Result, Ok, Err, OnOk, OnErr, IfErr}
use Rattle.lexre_bytes.specs.declared.refusals.SpecErrorKind.{SpecErrorKind}
use Rattle.lexre_bytes.specs.Memory.{UnlessMemory}
use Rattle.lexre_bytes.proofs.MemoryLaws.{unless_memory}

pub on_ok : {T E : Type 0} (r : Result T E) (A B C : Type 0) → (A → B → C) → OnOk r A → OnOk r B → OnOk r C
on_ok (Ok x) A B C f a b = f a b
on_ok (Err e) A B C f a b = tt

pub if_err : {T : Type 0} (r : Result T SpecErrorKind) (F G : Type 0) → (F → G) → IfErr r (λ e. UnlessMemory e F) → IfErr r (λ e. UnlessMemory e G)
if_err (Ok x) F G f h = tt
if_err (Err e) F G f h = unless_memory e F G f h

pub on_err : {T E : Type 0} (r : Result T E) (F : Type 0) → F → OnErr r F
on_err (Ok x) F h = tt
on_err (Err e) F h = h
