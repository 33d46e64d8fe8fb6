use Rattle.std.proofs.Common.{rules, ℕ, ◌+◌, ◌<◌, length, slice_index, slice_set, arith, refl, sym, subst}
use Rattle.std.proofs.lemmas.List.{get_or_read}
use Rattle.lexauto_dfa.specs.Sources.{AreChains}
use Rattle.lexauto_dfa.proofs.Chains.{one_more_chained}
use Rattle.lexauto_dfa.proofs.least.sources.chains_of.Goals as goal

pub loop-x-preserved : goal.loop-x-preserved
loop-x-preserved c =
    let row = c.args.row.now in
    let x = c.loop-x.x in
    let last = c.loop-x.last.items in
    let before = c.loop-x.before.items in
    let chains = c.loop-x.invariant in
    let within : x < length row = search rules in
    let low = c.requires.row x within in
    let read = get_or_read last _ _ (let l = chains.lasts in omega (arith, l, low)) c.index.ensures 0 in
    subst (λ (n : ℕ). AreChains row (slice_set last (slice_index row x) (x + 1)) (slice_set before x n) (x + 1)) (sym read)
    (one_more_chained row last before x (slice_index row x) chains low refl within)
