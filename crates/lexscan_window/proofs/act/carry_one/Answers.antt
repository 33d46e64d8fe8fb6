use Rattle.std.proofs.Common.{◌≡◌, take, sym, ap, ◌∙◌, arith}
use Rattle.std.proofs.lemmas.Result.{err_from_is_err_and}
use Rattle.lexscan_window.proofs.act.carry_one.Goals as goal

pub returns-in_err-put-in-Echo-clause-bytes : goal.returns-in_err-put-in-Echo-clause-bytes
returns-in_err-put-in-Echo-clause-bytes g c =
    let p = err_from_is_err_and c.from_residual.result c.from_residual.ensures.1 in
    let text : c.slice.result.now ≡ take c.args.acting.now.end c.args.window.now.bytes = c.slice.ensures ∙ ap (λ n. take n c.args.window.now.bytes) (omega arith) in
    rw (p.1, c.in-Echo.is, sym text) c.in_err-put-in-Echo.ensures.bytes

pub returns-in_err-put-in-Print-clause-bytes : goal.returns-in_err-put-in-Print-clause-bytes
returns-in_err-put-in-Print-clause-bytes g c =
    let p = err_from_is_err_and c.from_residual-in_err-put-in-Print.result c.from_residual-in_err-put-in-Print.ensures.1 in
    rw (p.1, c.in-Print.is, sym c.as_slice.ensures.value) c.in_err-put-in-Print.ensures.bytes
