use Rattle.std.proofs.Common.{rules, ◌<◌, length, arith, ap, ◌∙◌, ◌-◌, ◌/◌, ◌≡◌, subst, ℕ}
use Rattle.std.proofs.lemmas.Grind.{get_or_default_zero}
use Rattle.lextab_packed.proofs.Chained.{Walked, steps_from, ends}
use Rattle.lextab_packed.proofs.live.mark_sources.Goals as goal

pub chain-preserved : goal.chain-preserved
chain-preserved c =
    let sources = c.args.sources.now in
    let low = c.chain.invariant.low in
    let some : 0 < c.chain.link = search rules in
    let long = sources.chained.befores in
    let inside : c.chain.link - 1 < length sources.chains.entries.items = omega (arith, low, some) in
    let within : c.chain.link - 1 < length sources.chains.before.items = omega (arith, inside, long) in
    steps_from sources.next.now sources.chains.last.items sources.chains.entries.items sources.chains.before.items sources.chained c.args.accepting.now c.args.target
    c.args.live.now.items c.chain.live.items c.mark_live.new.live.items c.args.waiting.now.items c.chain.waiting.items c.mark_live.new.waiting.items
    c.chain.link c.index-link-in-chain.result.now (c.index.result.now / 256) some
    (ap (λ (z : ℕ). z / 256) (c.index.ensures ∙ get_or_default_zero sources.chains.entries.items (c.chain.link - 1) c.index.result.now inside))
    (c.index-link-in-chain.ensures ∙ get_or_default_zero sources.chains.before.items (c.chain.link - 1) c.index-link-in-chain.result.now within) c.chain.invariant c.in_ok-mark_live.ensures

pub returns : goal.returns
returns c =
    let sources = c.args.sources.now in
    let none : c.chain.link ≡ 0 = search rules in
    ends sources.next.now sources.chains.last.items sources.chains.entries.items sources.chains.before.items sources.chained c.args.accepting.now c.args.target
    c.args.live.now.items c.chain.live.items c.args.waiting.now.items c.chain.waiting.items
    (subst (λ (e : ℕ). Walked sources.next.now sources.chains.entries.items c.args.target e c.args.accepting.now c.args.live.now.items c.args.waiting.now.items c.chain.live.items c.chain.waiting.items) none c.chain.invariant)
