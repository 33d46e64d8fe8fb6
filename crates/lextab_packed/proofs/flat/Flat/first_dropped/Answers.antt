use Rattle.std.proofs.Common.{◌+◌, ◌-◌, length, take, drop, subst, arith}
use Rattle.lex_machine.specs.Singles.{IsDropped}
use Rattle.lextab_packed.specs.Machines.{table_machine}
use Rattle.lextab_packed.specs.Singles.{FirstAre}
use Rattle.lextab_packed.proofs.Singling.{of_front, and_then}
use Rattle.lextab_packed.proofs.flat.Flat.first_dropped.Goals as goal

pub returns-then-near-lt-NEAR_DROPPED : goal.returns-then-near-lt-NEAR_DROPPED
returns-then-near-lt-NEAR_DROPPED c =
    of_front (IsDropped (table_machine c.args.self.now.tables) c.args.first) c.args.bytes.now c.min.result c.dropped_singly-near.result (omega (arith, c.min.ensures)) c.dropped_singly-near.ensures

pub returns : goal.returns
returns c =
    let P = IsDropped (table_machine c.args.self.now.tables) c.args.first in
    let bytes = c.args.bytes.now in
    let near = c.dropped_singly-near.result in
    let count = c.leap_dropped-count.result in
    let few = of_front P bytes c.min.result near (omega (arith, c.min.ensures)) c.dropped_singly-near.ensures in
    let far = and_then P (take (length bytes - near) (drop near bytes)) count c.dropped_singly.result c.leap_dropped-count.ensures c.dropped_singly.ensures in
    subst (FirstAre P bytes) (omega arith) (and_then P bytes near (count + c.dropped_singly.result) few far)
