use Rattle.std.proofs.Common.{ℕ, Option, length, ap, refl, sym, arith}
use Rattle.std.specs.Prelude.{None, unwrap_or}
use Rattle.std.proofs.lemmas.Option.{slice_get_past, slice_get_read}
use Rattle.lexlook_check.proofs.conditions.byte_of.Goals as goal

pub returns-in-None : goal.returns-in-None
returns-in-None c = sym (ap (λ (o : Option (Option ℕ)). unwrap_or o None) (slice_get_past c.args.bytes.now c.args.number (grind (arith, c.in-None.ensures.lookup.0))))

pub returns-in-Some : goal.returns-in-Some
returns-in-Some c =
    let bytes = c.args.bytes.now in
    sym (ap (λ (o : Option (Option ℕ)). unwrap_or o None) (slice_get_read bytes (length bytes) c.args.number c.in-Some.byte.now refl (grind (arith, c.in-Some.ensures.lookup.0)) c.in-Some.ensures.lookup.1))
