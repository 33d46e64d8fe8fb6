-- What was appended before a flush.
use Rattle.std.proofs.Common.{◌≡◌, ℕ, List, [], ◌++◌, Result, Ok, Err, sym, subst, append-nil}
use Rattle.lex_io.specs.Sink.{Appended}

-- all bytes were appended, and then nothing was, whatever that answers
pub flushed_after : {S T E : Type 0} (wrote : S → List ℕ → S → Type 0) (s u t : S) (bytes : List ℕ) (r : Result T E) → (wrote s bytes u → wrote u [] t → wrote s (bytes ++ []) t) → wrote s bytes u → wrote u [] t → Appended (λ xs. wrote s xs t) bytes r
flushed_after wrote s u t bytes (Ok v) more put none = subst (λ l. wrote s l t) (append-nil bytes) (more put none)
flushed_after wrote s u t bytes (Err e) more put none = (bytes, ([], sym (append-nil bytes)), subst (λ l. wrote s l t) (append-nil bytes) (more put none))
