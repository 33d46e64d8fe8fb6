use Rattle.std.proofs.Common.{◌∙◌, sym, ap, arith}
use Rattle.std.specs.Prelude.{drop}
use Rattle.lexlook_letters.specs.Sequences.{byte_ranges}
use Rattle.lexlook_letters.specs.Text.{going_through}
use Rattle.lexlook_letters.proofs.Groups.{none_past}
use Rattle.lexlook_letters.proofs.grouping.going_through.Goals as goal

pub returns-else-at-eq0 : goal.returns-else-at-eq0
returns-else-at-eq0 c = none_past c.args.at _ (omega (arith, c.if-at-eq0.false)) ∙ ap (λ s. going_through (drop c.args.at (byte_ranges s))) (sym c.in-Two.is)

pub returns-else-at-eq1 : goal.returns-else-at-eq1
returns-else-at-eq1 c =
    none_past c.args.at _ (omega (arith, c.if-at-eq0-2.false, c.if-at-eq1.false)) ∙ ap (λ s. going_through (drop c.args.at (byte_ranges s))) (sym c.in-Three.is)

pub returns-else-at-eq2 : goal.returns-else-at-eq2
returns-else-at-eq2 c =
    none_past c.args.at _ (omega (arith, c.if-at-eq0-3.false, c.if-at-eq1-2.false, c.if-at-eq2.false)) ∙ ap (λ s. going_through (drop c.args.at (byte_ranges s))) (sym c.in-Four.is)
