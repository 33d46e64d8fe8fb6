use Rattle.std.proofs.Common.{◌≡◌, ℕ, ◌<◌, slice_index, arith, ap}
use Rattle.lexauto_dfa.proofs.least.marking.reaches.Goals as goal

pub returns : goal.returns
returns c = λ none x h (i, low, e).
    let letter = c.args.letter.now in
    let zero : slice_index letter.chains.last.items (slice_index c.args.targets.now i) ≡ 0 = c.loop-target.invariant i (omega (arith, low)) in
    let there : x < slice_index letter.chains.last.items (slice_index letter.row.items x) = letter.chained.last_all x h in
    let same : slice_index letter.chains.last.items (slice_index c.args.targets.now i) ≡ slice_index letter.chains.last.items (slice_index letter.row.items x) = ap (λ (t : ℕ). slice_index letter.chains.last.items t) e in
    omega (arith, zero, there, same)
