use Rattle.std.proofs.Common.{ℕ, ◌-◌, ◌+◌, ◌≤◌, List, length, take, drop, sym, ap, arith}
use Rattle.std.proofs.lemmas.List.{length-take}
use Rattle.lexscan_window.proofs.Walking.{filled_on}
use Rattle.lexscan_window.proofs.window.Window.fill.Goals as goal
use Rattle.lexscan_window.proofs.window.Window.fill.Goals.{then-most-room, else-most-room}

pub returns-clause-filled : goal.returns-clause-filled
returns-clause-filled g c =
    filled_on (g.M.Machine.machine c.args.machine.now) c.self.inside.start c.self.inside.end _ _ c.args.most c.args.first _ c.self.inside.buffer.items c.walk_into-walk.new.place _ _ c.args.self.now.bytes c.args.ready.now c.walk_into-walk.result
    c.walk_into-walk.ensures.filled c.deref_mut.ensures.value c.self.invariant.0 (omega (arith, c.self.invariant.1, c.self.inside.buffer.ok)) (omega (arith, sizes, inside)) (omega (arith, c.walk_into-walk.auto.place)) (omega (arith, sizes, few))
    (sym (ap (λ v. v.bytes) c.self.view_is))
  where
    end : ℕ
    end = c.self.inside.end

    room : ℕ
    room = c.if-most-room.limit

    place : List ℕ
    place = take (end + room - end) (drop end c.deref_mut.result.now)

    sizes : length place ≤ room
    sizes = omega (arith, length-take (end + room - end) (drop end c.deref_mut.result.now))

    inside : end + room ≤ c.self.inside.buffer.len
    inside = elim c.if-most-room.branch [
      | then-most-room w ↦ grind (arith, w.limit-is, w.if-most-room.true, c.len.ensures, c.self.invariant.1)
      | else-most-room w ↦ grind (arith, w.limit-is, c.len.ensures, c.self.invariant.1)
    ]

    few : room ≤ c.args.most
    few = elim c.if-most-room.branch [
      | then-most-room w ↦ grind (arith, w.limit-is)
      | else-most-room w ↦ grind (arith, w.limit-is, w.if-most-room.false, c.len.ensures)
    ]
