use Rattle.std.proofs.Common.{ℕ, refl, ap, [], ◌∷◌}
use Rattle.std.specs.Int.{w32, to_be_bytes}
use Rattle.std.proofs.lemmas.Result.{err_from_is_err_and}
use Rattle.lextab_file.specs.Tags.{cut_byte}
use Rattle.lextab_file.proofs.Written.{begun_first, appended_then}
use Rattle.lextab_file.proofs.writing.actions.put_tagged.Goals as goal

pub returns-in_err-put-clause-bytes : goal.returns-in_err-put-clause-bytes
returns-in_err-put-clause-bytes g c =
    let p = err_from_is_err_and c.from_residual.result c.from_residual.ensures.1 in
    rw p.1 (begun_first (λ xs. g.K.Sink.wrote c.args.sink.now xs c.put.new.self) _ (cut_byte c.args.tag ∷ []) (to_be_bytes w32 c.args.number) (ap (λ (b : ℕ). b ∷ []) c.byte.ensures) c.in_err-put.ensures.bytes)

pub returns-clause-bytes : goal.returns-clause-bytes
returns-clause-bytes g c = (appended_then g.K.Sink.wrote g.met.K.Sink.wrote_more c.args.sink.now c.put.new.self _ _ (cut_byte c.args.tag ∷ []) _ (to_be_bytes w32 c.args.number) _ (ap (λ (b : ℕ). b ∷ []) c.byte.ensures) refl c.in_ok-put.ensures.bytes c.put_long.ensures.bytes)
