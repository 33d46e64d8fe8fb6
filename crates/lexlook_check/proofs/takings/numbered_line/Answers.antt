use Rattle.std.proofs.Common.{ℕ, Option, length, ap, refl, sym, arith}
use Rattle.std.specs.Prelude.{unwrap_or}
use Rattle.std.proofs.lemmas.Option.{slice_get_past, slice_get_read}
use Rattle.lexlook_check.proofs.takings.numbered_line.Goals as goal

pub returns-in-None : goal.returns-in-None
returns-in-None c = sym (ap (λ (o : Option ℕ). unwrap_or o 0) (slice_get_past c.args.lines.now c.args.rule (grind (arith, c.in-None.ensures.lookup.0))))

pub returns-in-Some : goal.returns-in-Some
returns-in-Some c =
    let lines = c.args.lines.now in
    sym (ap (λ (o : Option ℕ). unwrap_or o 0) (slice_get_read lines (length lines) c.args.rule c.in-Some.line.now refl (grind (arith, c.in-Some.ensures.lookup.0)) c.in-Some.ensures.lookup.1))
