use Rattle.std.proofs.Common.{rules, ◌≡◌, length, arith}
use Rattle.lexauto_dfa.proofs.ByTurns.{turns_are}
use Rattle.lexauto_dfa.proofs.least.interleaving.interleave.Goals as goal

pub returns : goal.returns
returns c =
    let v = c.loop-i.invariant in
    let n : c.loop-i.i ≡ length c.args.evens.now = search rules in
    turns_are c.loop-i.both.items c.args.evens.now c.args.odds.now c.requires (omega (arith, v.len, n)) (λ i h. v.evens i (omega (arith, h, n))) (λ i h. v.odds i (omega (arith, h, n)))
