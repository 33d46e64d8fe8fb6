use Rattle.std.proofs.Common.{refl, ap, [], ◌∷◌}
use Rattle.std.specs.Int.{w16, to_be_bytes}
use Rattle.std.proofs.lemmas.Result.{err_from_is_err_and}
use Rattle.lextab_file.specs.File.{counted}
use Rattle.lextab_file.proofs.Written.{begun_first, appended_then}
use Rattle.lextab_file.proofs.writing.actions.put_statement.Goals as goal

pub returns-in_err-put_tag-in-Print-clause-bytes : goal.returns-in_err-put_tag-in-Print-clause-bytes
returns-in_err-put_tag-in-Print-clause-bytes g c =
    let p = err_from_is_err_and c.from_residual.result c.from_residual.ensures.1 in
    rw (p.1, c.in-Print.is) (begun_first (λ xs. g.K.Sink.wrote c.args.sink.now xs c.put_tag-in-Print.new.sink) (1 ∷ []) (1 ∷ []) (counted c.in-Print.bytes.items) refl c.in_err-put_tag-in-Print.ensures.bytes)

pub returns-in_ok-put_tag-in-Print-clause-bytes : goal.returns-in_ok-put_tag-in-Print-clause-bytes
returns-in_ok-put_tag-in-Print-clause-bytes g c = rw c.in-Print.is (appended_then g.K.Sink.wrote g.met.K.Sink.wrote_more c.args.sink.now c.put_tag-in-Print.new.sink _ (1 ∷ []) (1 ∷ []) _ (counted c.in-Print.bytes.items) _ refl (ap counted c.deref.ensures.value) c.in_ok-put_tag-in-Print.ensures.bytes c.put_string.ensures.bytes)

pub returns-in_err-put_tag-in-Less-clause-bytes : goal.returns-in_err-put_tag-in-Less-clause-bytes
returns-in_err-put_tag-in-Less-clause-bytes g c =
    let p = err_from_is_err_and c.from_residual-in_err-put_tag-in-Less.result c.from_residual-in_err-put_tag-in-Less.ensures.1 in
    rw (p.1, c.in-Less.is) (begun_first (λ xs. g.K.Sink.wrote c.args.sink.now xs c.put_tag-in-Less.new.sink) (4 ∷ []) (4 ∷ []) (to_be_bytes w16 c.in-Less.count) refl c.in_err-put_tag-in-Less.ensures.bytes)

pub returns-in_ok-put_tag-in-Less-clause-bytes : goal.returns-in_ok-put_tag-in-Less-clause-bytes
returns-in_ok-put_tag-in-Less-clause-bytes g c = rw c.in-Less.is (appended_then g.K.Sink.wrote g.met.K.Sink.wrote_more c.args.sink.now c.put_tag-in-Less.new.sink _ (4 ∷ []) (4 ∷ []) _ (to_be_bytes w16 c.in-Less.count) _ refl refl c.in_ok-put_tag-in-Less.ensures.bytes c.put_short.ensures.bytes)
