use Rattle.std.proofs.Common.{◌≡◌, ℕ, ◌<◌, Bool, List, map, slice_index, ap, subst, ◌∙◌}
use Rattle.lextab_packed.specs.Invariant.{GoesOn}
use Rattle.lextab_packed.specs.Passes.{HasClass, SettledFrom}
use Rattle.lextab_packed.specs.Views.{table_of}
use Rattle.lextab_packed.proofs.Going.{accepts}
use Rattle.lextab_packed.proofs.Passing.{found}
use Rattle.lextab_packed.proofs.passes.going_on_soon.Goals as goal

pub returns-then-count-eq0 : goal.returns-then-count-eq0
returns-then-count-eq0 c = λ x e.
    let p = c.args.parts.now in
    let t = table_of p in
    let live = c.pass-count.new.live.items in
    let bytes = c.in_ok-bytes.bytes.items in
    let is : c.pass-count.new.live ≡ x = cc in
    let flags = c.deref-in-loop-number-2.ensures.value ∙ c.in_ok-accepting.ensures ∙ ap (map accepts) c.deref.ensures.value in
    let over = subst (λ (bs : List ℕ). SettledFrom t bs c.deref-in-loop-number-2.result.now live 0) c.deref-in-loop-number.ensures.value (c.pass-count.ensures.settled c.if-count-eq0.true) in
    let done = subst (λ (a : List Bool). SettledFrom t bytes a live 0) flags over in
    let has = λ (b : ℕ) (h : b < 256). subst (λ (cs : List ℕ). HasClass cs bytes (slice_index cs b)) c.deref-2.ensures.value (c.in_ok-bytes.ensures b h) in
    subst (λ v. GoesOn t v.items) is
    (found p c.requires bytes live has (c.pass-count.ensures.len ∙ c.loop-number.invariant.len) (c.pass-count.ensures.sound c.loop-number.invariant.sound) done)
