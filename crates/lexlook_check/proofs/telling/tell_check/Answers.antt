use Rattle.std.proofs.Common.{ℕ, Bool, List, Err, subst}
use Rattle.lex_io.specs.Sink.{Appended}
use Rattle.lexlook_check.specs.declared.error.CheckError.TheVariants.{Write}
use Rattle.lexlook_check.proofs.telling.tell_check.Goals as goal

pub returns-in-Err-put-clause-told : goal.returns-in-Err-put-clause-told
returns-in-Err-put-clause-told g c =
    record {
      checked = c.in-Ok.telling.checked;
      bytes = c.in-Ok.telling.bytes.items;
      telling = c.in-Ok.ensures;
      written = subst (λ (bytes : List ℕ). Appended {T = Bool} (λ xs. g.K.Sink.wrote c.args.sink.now xs c.put.new.self) bytes (Err Write)) c.as_slice.ensures.value c.in-Err-put.ensures.bytes;
    }

pub returns-clause-told : goal.returns-clause-told
returns-clause-told g c = (
  record {
    checked = c.in-Ok.telling.checked;
    bytes = c.in-Ok.telling.bytes.items;
    telling = c.in-Ok.ensures;
    written = subst (λ (bytes : List ℕ). g.K.Sink.wrote c.args.sink.now bytes c.put.new.self) c.as_slice.ensures.value c.in-Ok-put.ensures.bytes;
  },
  c.is_well.ensures,
)
