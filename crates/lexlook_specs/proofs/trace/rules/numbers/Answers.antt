use Rattle.std.proofs.Common.{◌++◌, ◌∷◌, [], true, ◌+◌, ◌-◌, refl, ap, sym, ◌∙◌, append_assoc}
use Rattle.lex_semantics.specs.Text.{listed}
use Rattle.lexspec.proofs.ListedLaws.{number_here}
use Rattle.lexlook_specs.proofs.trace.rules.numbers.Goals as goal

pub loop-number-preserved : goal.loop-number-preserved
loop-number-preserved c =
    let k = c.loop-number.number in
    let later = listed (λ c. true) (k + 1) (c.args.count - (k + 1)) in
    ap (λ z. z ++ later) c.in_ok-push.ensures.items ∙ append_assoc c.loop-number.numbers.items (k ∷ []) later
    ∙ ap (λ z. c.loop-number.numbers.items ++ z) (sym (number_here k c.args.count (λ c. true) c.loop-number-test.true refl)) ∙ c.loop-number.invariant
