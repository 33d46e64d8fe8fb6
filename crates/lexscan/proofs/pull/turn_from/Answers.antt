use Rattle.std.proofs.Common.{◌-◌, drop, Ok, Some, refl, subst, arith}
use Rattle.std.proofs.lemmas.List.{length-drop}
use Rattle.lexscan.specs.Pulls.{TurnedOver}
use Rattle.lexscan.proofs.Pulling as Pull
use Rattle.lexscan.proofs.pull.turn_from.Goals as goal

pub overflow_sub-from : goal.overflow_sub-from
overflow_sub-from g c =
    let M = g.M.Machine.machine c.args.machine.now in
    let w = c.args.waiting.now in
    let t = rw c.in-Ok-Some.field-0-is at c.in-Ok-Some.ensures in
    let over = subst (λ v. TurnedOver M v t.0 c.args.scan.now c.turn_over.new.scan (Ok (Some c.in-Ok-Some.turn))) (Pull.to_end w c.args.from.now) t.1 in
    omega (arith, Pull.asked_for M (drop c.args.from.now w) t.0 c.args.scan.now c.turn_over.new.scan c.in-Ok-Some.turn over c.requires.reachable)

pub overflow_add-from : goal.overflow_add-from
overflow_add-from g c =
    let M = g.M.Machine.machine c.args.machine.now in
    let w = c.args.waiting.now in
    let t = rw c.in-Ok-Some.field-0-is at c.in-Ok-Some.ensures in
    let over = subst (λ v. TurnedOver M v t.0 c.args.scan.now c.turn_over.new.scan (Ok (Some c.in-Ok-Some.turn))) (Pull.to_end w c.args.from.now) t.1 in
    let asked = Pull.asked_for M (drop c.args.from.now w) t.0 c.args.scan.now c.turn_over.new.scan c.in-Ok-Some.turn over c.requires.reachable in
    let some = Pull.some_asked M (drop c.args.from.now w) t.0 c.args.scan.now c.turn_over.new.scan c.in-Ok-Some.turn over c.requires.reachable in
    grind (arith, asked, some, length-drop c.args.from.now w, c.requires.inside, c.well_formed)

pub returns-in-Ok-Some-clause-turned : goal.returns-in-Ok-Some-clause-turned
returns-in-Ok-Some-clause-turned g c =
    let M = g.M.Machine.machine c.args.machine.now in
    let w = c.args.waiting.now in
    let t = rw c.in-Ok-Some.field-0-is at c.in-Ok-Some.ensures in
    let over = subst (λ v. TurnedOver M v t.0 c.args.scan.now c.turn_over.new.scan (Ok (Some c.in-Ok-Some.turn))) (Pull.to_end w c.args.from.now) t.1 in
    let asked = Pull.asked_for M (drop c.args.from.now w) t.0 c.args.scan.now c.turn_over.new.scan c.in-Ok-Some.turn over c.requires.reachable in (
      t.0,
      over,
      Pull.moved_on w (drop c.args.from.now w) over.got t.0 c.args.from.now (c.turn_over.new.scan.state.reading.taken - c.args.scan.now.state.reading.taken) refl over.all (omega (arith, asked)),
    )

pub returns-in-Ok-Some-clause-inside : goal.returns-in-Ok-Some-clause-inside
returns-in-Ok-Some-clause-inside g c =
    let M = g.M.Machine.machine c.args.machine.now in
    let w = c.args.waiting.now in
    let t = rw c.in-Ok-Some.field-0-is at c.in-Ok-Some.ensures in
    let over = subst (λ v. TurnedOver M v t.0 c.args.scan.now c.turn_over.new.scan (Ok (Some c.in-Ok-Some.turn))) (Pull.to_end w c.args.from.now) t.1 in
    let asked = Pull.asked_for M (drop c.args.from.now w) t.0 c.args.scan.now c.turn_over.new.scan c.in-Ok-Some.turn over c.requires.reachable in
    let some = Pull.some_asked M (drop c.args.from.now w) t.0 c.args.scan.now c.turn_over.new.scan c.in-Ok-Some.turn over c.requires.reachable in
    omega (arith, asked, some, length-drop c.args.from.now w, c.requires.inside)
