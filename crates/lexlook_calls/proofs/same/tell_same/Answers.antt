use Rattle.std.proofs.Common.{inl, inr, refl}
use Rattle.lexlook_calls.specs.Lines.{side_as}
use Rattle.lexlook_calls.proofs.Sided.{first_refused}
use Rattle.lexlook_calls.proofs.same.tell_same.Goals as goal

pub returns-in-Err-clause-told : goal.returns-in-Err-clause-told
returns-in-Err-clause-told g c = first_refused g.K.Sink.wrote c.args.options c.args.left c.args.right c.args.sink.now c.in-Err.error (inl c.in-Err.ensures.refused)

pub returns-in-Err-side_of-clause-told : goal.returns-in-Err-side_of-clause-told
returns-in-Err-side_of-clause-told g c = first_refused g.K.Sink.wrote c.args.options c.args.left c.args.right c.args.sink.now c.in-Err-side_of.error
    (inr (side_as c.args.left.name.now c.in-Ok.side, record { name = refl; stands = c.in-Ok.ensures.stands }, c.in-Err-side_of.ensures.refused))
