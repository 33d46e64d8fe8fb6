use Rattle.std.proofs.Common.{◌/◌, length, slice_index, refl, ◌∙◌, inl, inr, arith}
use Rattle.lextab.proofs.Counts.{often_or, default_of_most}
use Rattle.lextab.proofs.rows.default_of.Goals as goal

pub clear-requires-clause-rest : goal.clear-requires-clause-rest
clear-requires-clause-rest c = λ t none. c.count_up.ensures t ∙ elim (often_or (slice_index c.args.row.now) (length c.args.row.now) t) [
  | inl z ↦ z
  | inr w ↦ absurd (none w.0 w.1 w.2)
]

pub returns-then-is_mostly-clause-default : goal.returns-then-is_mostly-clause-default
returns-then-is_mostly-clause-default c =
    let row = c.args.row.now in
    let some = c.requires.some in
    default_of_most (slice_index row) (length row) (slice_index row (length row / 2)) (length row / 2, omega (arith, some), refl) (c.is_mostly.ensures c.if-is_mostly.true)
