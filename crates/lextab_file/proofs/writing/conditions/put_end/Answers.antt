use Rattle.std.proofs.Common.{refl, ap, [], ◌∷◌}
use Rattle.std.proofs.lemmas.Result.{err_from_is_err_and}
use Rattle.lextab_file.specs.File.{counted}
use Rattle.lextab_file.proofs.Written.{begun_first, appended_then}
use Rattle.lextab_file.proofs.writing.conditions.put_end.Goals as goal

pub returns-in_err-put_string-clause-bytes : goal.returns-in_err-put_string-clause-bytes
returns-in_err-put_string-clause-bytes g c =
    let p = err_from_is_err_and c.from_residual.result c.from_residual.ensures.1 in
    rw p.1 (begun_first (λ xs. g.K.Sink.wrote c.args.sink.now xs c.put_string.new.sink) _ (counted c.args.end.now.print.items) (c.args.end.now.status ∷ []) (ap counted c.deref.ensures.value) c.in_err-put_string.ensures.bytes)

pub returns-clause-bytes : goal.returns-clause-bytes
returns-clause-bytes g c = (appended_then g.K.Sink.wrote g.met.K.Sink.wrote_more c.args.sink.now c.put_string.new.sink _ _ (counted c.args.end.now.print.items) _ (c.args.end.now.status ∷ []) _ (ap counted c.deref.ensures.value) refl c.in_ok-put_string.ensures.bytes c.put.ensures.bytes)
