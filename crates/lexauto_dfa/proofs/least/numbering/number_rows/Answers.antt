use Rattle.std.proofs.Common.{rules, ◌≡◌, ◌<◌, ◌+◌, ◌-◌, ◌*◌, ◌/◌, length, arith}
use Rattle.lexauto_dfa.proofs.Numbered.{few_numbers}
use Rattle.lexauto_dfa.proofs.least.numbering.number_rows.Goals as goal

pub rows-smaller : goal.rows-smaller
rows-smaller c =
    let v = c.rows.invariant in
    let p = length c.rows.rows.items in
    let few = few_numbers c.args.classes.now c.rows.numbers.of_class.items c.rows.numbers.members.items v.numbers in
    let test : p / 256 < length c.rows.numbers.members.items = search (rules, c.rows-test.true) in
    let items : length c.number_row.new.rows.items ≡ p + 256 = search rules in
    let less : 256 * length c.args.classes.now - length c.number_row.new.rows.items < 256 * length c.args.classes.now - p = omega (arith, few, test, items) in
    less
