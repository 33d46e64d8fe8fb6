use Rattle.std.proofs.Common.{rules, ◌≡◌, ◌+◌, ◌-◌, ◌<◌, ℕ, suc, true, false, List, length, get_or, sym, ap, ◌∙◌, arith}
use Rattle.std.specs.Str.{bytes_eq}
use Rattle.lexauto.specs.Interned.{befores_in, chained, lists_in}
use Rattle.lexauto.proofs.Interning.{found_here, found_before}
use Rattle.lexauto.proofs.interner.Interner.find.Goals as goal

pub returns-then-eq : goal.returns-then-eq
returns-then-eq c =
    let keys = c.args.self.now.keys.items in
    let kept = c.args.kept.now in
    let at = c.loop.at in
    let n = length keys - (c.loop.counter + 1) in
    let more : c.loop.counter < length keys = search rules in
    let left : suc n ≡ length keys - c.loop.counter = omega (arith, more) in
    let low : at < length keys = search rules in
    let here : c.in-Some.here.now ≡ get_or keys at c.in-Some.here.now = search rules in
    let same : bytes_eq c.in-Some.here.now.key.items kept ≡ true = ap (λ (l : List ℕ). bytes_eq l kept) (sym c.as_slice.ensures.value) ∙ sym c.eq.ensures ∙ c.if-eq.true in
    sym (found_here keys n at kept c.in-Some.here.now low here same) ∙ ap (λ (m : ℕ). chained (lists_in keys) (befores_in keys) m at kept) left ∙ c.loop.invariant

pub loop-preserved : goal.loop-preserved
loop-preserved c =
    let keys = c.args.self.now.keys.items in
    let kept = c.args.kept.now in
    let at = c.loop.at in
    let n = length keys - (c.loop.counter + 1) in
    let more : c.loop.counter < length keys = search rules in
    let left : suc n ≡ length keys - c.loop.counter = omega (arith, more) in
    let low : at < length keys = search rules in
    let here : c.in-Some.here.now ≡ get_or keys at c.in-Some.here.now = search rules in
    let other : bytes_eq c.in-Some.here.now.key.items kept ≡ false = ap (λ (l : List ℕ). bytes_eq l kept) (sym c.as_slice.ensures.value) ∙ sym c.eq.ensures ∙ c.if-eq.false in
    found_before keys n at kept c.in-Some.here.now low here other ∙ ap (λ (m : ℕ). chained (lists_in keys) (befores_in keys) m at kept) left ∙ c.loop.invariant
