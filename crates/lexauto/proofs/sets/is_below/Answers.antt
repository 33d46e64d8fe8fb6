use Rattle.std.proofs.Common.{rules, ◌-◌, ◌<◌, length}
use Rattle.std.specs.Prelude.{slice_index}
use Rattle.lexauto.proofs.KeyLaws.{below_last}
use Rattle.lexauto.proofs.sets.is_below.Goals as goal

pub returns : goal.returns
returns c = λ h.
    let numbers = c.args.numbers.now in
    let last : slice_index numbers (length numbers - 1) < c.args.count = search rules in
    below_last c.args.count numbers c.requires last
