use Rattle.std.proofs.Common.{◌≡◌, decimal, sym}
use Rattle.lexkit.proofs.stats.write_stats.Goals as goal

pub returns-clause-bytes : goal.returns-clause-bytes
returns-clause-bytes g c =
    let rules : decimal c.args.stats.now.rules ≡ c.format-rules.result.now = sym c.format-rules.ensures.text in
    let conditions : decimal c.args.stats.now.conditions ≡ c.format-conditions.result.now = sym c.format-conditions.ensures.text in
    let positions : decimal c.args.stats.now.positions ≡ c.format-positions.result.now = sym c.format-positions.ensures.text in
    let subsets : decimal c.args.stats.now.subsets ≡ c.format-subsets.result.now = sym c.format-subsets.ensures.text in
    let states : decimal c.args.stats.now.states ≡ c.format-states.result.now = sym c.format-states.ensures.text in
    let classes : decimal c.args.stats.now.classes ≡ c.format-classes.result.now = sym c.format-classes.ensures.text in
    let slots : decimal c.args.stats.now.slots ≡ c.format-slots.result.now = sym c.format-slots.ensures.text in
    let bytes : decimal c.args.stats.now.bytes ≡ c.format-bytes.result.now = sym c.format-bytes.ensures.text in
    rw (rules, conditions, positions, subsets, states, classes, slots, bytes) c.put_all.ensures.bytes
