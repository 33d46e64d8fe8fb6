use Rattle.std.proofs.Common.{rules, ◌≡◌, ◌↔◌, ◌⊎◌, ◌<◌, ◌+◌, ◌∙◌, ℕ, Bool, false, List, Vec, Global, length, ap, sym, subst, arith}
use Rattle.lex_semantics.specs.Text.{Among, flag}
use Rattle.lexauto_dfa.specs.Automata.{accepts_of}
use Rattle.lexauto_dfa.proofs.Accepting.{put_back}
use Rattle.lexlook_specs.specs.Placing.{IsLeastOf, IsPlacedAt, TakesBelow, takers}
use Rattle.lexlook_specs.proofs.Places.{below_more, below_not, is_nowhere, is_there, placed_least}
use Rattle.lexlook_specs.proofs.words.placing.takers.Goals as goal
use Rattle.lexlook_specs.proofs.words.placing.takers.Goals.{then-is_some, else-is_some}

pub loop-state-preserved : goal.loop-state-preserved
loop-state-preserved c =
    let d = c.args.dfa.now in
    let p = d.parts in
    let rejects = c.args.rejects.now in
    let places = c.args.places.now in
    let n = c.loop-state.state in
    let rule = c.args.rule in
    let v = c.loop-state.invariant in
    let old = c.loop-state.free.items in
    let at_states = c.len-state-end.ensures.states in
    let end = c.loop-state-test.true in
    let known = λ (j : ℕ) (m : Among (accepts_of d n) j). c.requires.rules n j (omega (arith, at_states, end)) m in
    let least = subst (IsLeastOf (IsPlacedAt places n)) (sym c.place_at.ensures) (placed_least places n) in
    elim c.if-is_some.branch [
      | then-is_some w ↦
          (let new = w.clear_taker.new.free in
          let some = is_there (IsPlacedAt places n) c.place_at.result least (sym c.is_some.ensures ∙ w.if-is_some.true) in
          let size : length old ≡ c.loop-state.free.len = search rules in
          let value = w.deref_mut.ensures.value in
          let len : length new ≡ length old = w.clear_taker.ensures.len ∙ ap length value in
          let same = put_back c.loop-state.free.len new old (omega (arith, len, size)) size in
          let is : c.if-is_some.free.items ≡ new = ap (λ (x : Vec Bool Global). x.items) w.free-is ∙ same in
          let at = w.accepts.ensures.rules in
          let cleared = subst (λ (l : List Bool). (j : ℕ) → (flag new j ≡ false) ↔ ((flag l j ≡ false) ⊎ (Among w.accepts.result.now rule × Among (takers rejects w.accepts.result.now) j × (flag rejects j ≡ false)))) value w.clear_taker.ensures.cleared in
          record {
            len = ap length is ∙ len ∙ v.len;
            cleared = subst (λ (l : List Bool). (j : ℕ) → ((j < length l) × (flag l j ≡ false)) ↔ TakesBelow p rejects places (n + 1) rule j) (sym is)
                (below_more p rejects places n rule old new some.0 v.len len some.1 v.cleared
                (subst (λ (l : List ℕ). (j : ℕ) → (flag new j ≡ false) ↔ ((flag old j ≡ false) ⊎ (Among l rule × Among (takers rejects l) j × (flag rejects j ≡ false)))) at cleared) known);
          })
      | else-is_some w ↦
          (let is : c.if-is_some.free.items ≡ old = ap (λ (x : Vec Bool Global). x.items) w.free-is in
          let none = is_nowhere (IsPlacedAt places n) c.place_at.result least (sym c.is_some.ensures ∙ w.if-is_some.false) in
          record {
            len = ap length is ∙ v.len;
            cleared = subst (λ (l : List Bool). (j : ℕ) → ((j < length l) × (flag l j ≡ false)) ↔ TakesBelow p rejects places (n + 1) rule j) (sym is) (below_not p rejects places n rule old none v.cleared);
          })
    ]
