use Rattle.std.proofs.Common.{rules, arith, sym}
use Rattle.std.proofs.lemmas.List.{get_or_read}
use Rattle.lexauto_dfa.proofs.Swapped as marking
use Rattle.lexauto_dfa.proofs.least.blocks.mark.Goals as goal

pub overflow_add-middle : goal.overflow_add-middle
overflow_add-middle c =
    let b = c.args.blocks.now in
    let a = c.requires.arranged in
    let q = c.requires.state in
    let p = sym (get_or_read b.place.items _ _ (omega (arith, a.places, q)) c.index.ensures 0) in
    let k = sym (get_or_read b.block.items _ _ q c.index-2.ensures 0) in
    let l = a.numbered c.args.state q in
    let m = sym (get_or_read b.middle.items _ _ (omega (arith, a.middles, l, k)) c.index-middle.ensures 0) in
    let z = sym (get_or_read b.order.items _ _ (let pl = a.placed c.args.state q in omega (arith, a.orders, pl, p, c.if-place-middle.false)) c.index-other.ensures 0) in
    search (rules, marking.marked_low b.order.items b.place.items b.block.items b.first.items b.middle.items b.end.items c.args.state c.index.result.now c.index-2.result.now c.index-middle.result.now c.index-other.result.now a q p k m z c.if-place-middle.false)

pub returns-clause-arranged : goal.returns-clause-arranged
returns-clause-arranged c =
    let b = c.args.blocks.now in
    let a = c.requires.arranged in
    let q = c.requires.state in
    let p = sym (get_or_read b.place.items _ _ (omega (arith, a.places, q)) c.index.ensures 0) in
    let k = sym (get_or_read b.block.items _ _ q c.index-2.ensures 0) in
    let l = a.numbered c.args.state q in
    let m = sym (get_or_read b.middle.items _ _ (omega (arith, a.middles, l, k)) c.index-middle.ensures 0) in
    let z = sym (get_or_read b.order.items _ _ (let pl = a.placed c.args.state q in omega (arith, a.orders, pl, p, c.if-place-middle.false)) c.index-other.ensures 0) in
    marking.arranged b.order.items b.place.items b.block.items b.first.items b.middle.items b.end.items c.args.state c.index.result.now c.index-2.result.now c.index-middle.result.now c.index-other.result.now a q p k m z c.if-place-middle.false

pub returns-clause-keeps : goal.returns-clause-keeps
returns-clause-keeps c =
    let b = c.args.blocks.now in
    let a = c.requires.arranged in
    let q = c.requires.state in
    let p = sym (get_or_read b.place.items _ _ (omega (arith, a.places, q)) c.index.ensures 0) in
    let k = sym (get_or_read b.block.items _ _ q c.index-2.ensures 0) in
    let l = a.numbered c.args.state q in
    let m = sym (get_or_read b.middle.items _ _ (omega (arith, a.middles, l, k)) c.index-middle.ensures 0) in
    let z = sym (get_or_read b.order.items _ _ (let pl = a.placed c.args.state q in omega (arith, a.orders, pl, p, c.if-place-middle.false)) c.index-other.ensures 0) in
    marking.keeps b.order.items b.place.items b.block.items b.first.items b.middle.items b.end.items c.args.state c.index.result.now c.index-2.result.now c.index-middle.result.now c.index-other.result.now a q p k m z c.if-place-middle.false

pub returns-clause-only : goal.returns-clause-only
returns-clause-only c =
    let b = c.args.blocks.now in
    let a = c.requires.arranged in
    let q = c.requires.state in
    let p = sym (get_or_read b.place.items _ _ (omega (arith, a.places, q)) c.index.ensures 0) in
    let k = sym (get_or_read b.block.items _ _ q c.index-2.ensures 0) in
    let l = a.numbered c.args.state q in
    let m = sym (get_or_read b.middle.items _ _ (omega (arith, a.middles, l, k)) c.index-middle.ensures 0) in
    let z = sym (get_or_read b.order.items _ _ (let pl = a.placed c.args.state q in omega (arith, a.orders, pl, p, c.if-place-middle.false)) c.index-other.ensures 0) in
    marking.only b.order.items b.place.items b.block.items b.first.items b.middle.items b.end.items c.args.state c.index.result.now c.index-2.result.now c.index-middle.result.now c.index-other.result.now a q p k m z c.if-place-middle.false
