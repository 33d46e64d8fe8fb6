use Rattle.std.proofs.Common.{rules, ◌≡◌, ◌-◌, ◌<◌, suc, length, arith}
use Rattle.std.proofs.lemmas.List.{get_or_read}
use Rattle.lexauto_dfa.proofs.Chains.{goes_before, marks_before}
use Rattle.lexauto_dfa.proofs.least.marking.mark_sources.Goals as goal

pub chain-preserved : goal.chain-preserved
chain-preserved c =
    let letter = c.args.letter.now in
    let row = letter.row.items in
    let last = letter.chains.last.items in
    let before = letter.chains.before.items in
    let v = c.chain.invariant in
    let next = c.chain.next in
    let z = next - 1 in
    let len = c.requires.row in
    let some : 0 < next = search rules in
    let at : next ≡ suc z = omega (arith, some) in
    let low = v.low in
    let inside : z < length row = omega (arith, some, low, len) in
    let here = v.here z at in
    let is = get_or_read before _ _ (let l = letter.chained.befores in omega (arith, l, inside)) c.index-next-in-chain.ensures 0 in
    record {
      arranged = c.in_ok-note_unless_alone.ensures.arranged;
      notes = c.in_ok-note_unless_alone.ensures.notes;
      low = let l = letter.chained.before_low z inside in omega (arith, l, is, inside, len);
      here = goes_before row last before letter.chained c.args.target next z c.index-next-in-chain.result.now at inside here is;
      marks = marks_before row last before letter.chained c.args.target next z c.index-next-in-chain.result.now at inside here is
          c.args.blocks.now c.chain.blocks c.note_unless_alone.new.blocks v.marks c.in_ok-note_unless_alone.ensures.marks;
    }
