use Rattle.std.proofs.Common.{◌≡◌, ◌∙◌, ◌<◌, ◌++◌, Some, ap, length, map, refl, sym, arith}
use Rattle.std.specs.Prelude.{slice_get}
use Rattle.std.proofs.lemmas.Option.{slice_get_read}
use Rattle.lexlook_check.specs.Takings.{taking_of, takings_at}
use Rattle.lexlook_check.proofs.TakingLaws.{more_told}
use Rattle.lexlook_check.proofs.takings.takings_of.Goals as goal

pub loop-rule-preserved : goal.loop-rule-preserved
loop-rule-preserved c =
    let xs = c.args.seen.now.taken.rules.items in
    let ys = c.args.seen.now.fits.rules.items in
    let lines = c.args.lines.now in
    let i = c.loop-rule.rule in
    let in_lines : i < length lines = c.loop-rule-test.true in
    let one = c.requires.taken in
    let two = c.requires.fits in
    let in_xs : i < length xs = omega (arith, in_lines, one) in
    let in_ys : i < length ys = omega (arith, in_lines, two) in
    let taken : slice_get xs i ≡ Some c.index-taken.result.now = slice_get_read xs (length xs) i c.index-taken.result.now refl in_xs c.index-taken.ensures in
    let fits : slice_get ys i ≡ Some c.index-fits.result.now = slice_get_read ys (length ys) i c.index-fits.result.now refl in_ys c.index-fits.ensures in
    more_told (λ k. takings_at lines k (slice_get xs k) (slice_get ys k)) _ _ i c.loop-rule.invariant
    (c.in_ok-add_taking.ensures ∙ ap (λ o. map taking_of c.loop-rule.takings.items ++ takings_at lines i o (Some c.index-fits.result.now)) (sym taken)
    ∙ ap (λ o. map taking_of c.loop-rule.takings.items ++ takings_at lines i (slice_get xs i) o) (sym fits))
