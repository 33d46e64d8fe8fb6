use Rattle.std.proofs.Common.{rules, ◌≡◌, ℕ, ◌<◌, length, slice_index, inl, inr, refl, sym, subst, arith}
use Rattle.std.specs.Prelude.{slice_set}
use Rattle.std.proofs.lemmas.Bool.{cases_lt}
use Rattle.lexauto_dfa.specs.declared.least.predecessors.Predecessors.{Predecessors}
use Rattle.lexauto_dfa.specs.Predecessors.{Allows, known_of}
use Rattle.lexauto_dfa.proofs.Preceding.{at_place, keeps_all, still_below}
use Rattle.lexauto_dfa.proofs.least.predecessors.add_row.Goals as goal

pub loop-state-preserved : goal.loop-state-preserved
loop-state-preserved c =
    let row = c.args.row.now in
    let state = c.loop-state.state in
    let known = c.loop-state.known in
    let v = c.loop-state.invariant in
    let e = c.add.ensures in
    let target = slice_index row state in
    let less : state < length row = search rules in
    let low : target < length known = (let r = c.requires.row state less in omega (arith, r, v.len)) in
    let keeps = keeps_all known target c.add.new.self low (λ x a. e.keeps x a) in
    record {
      len = search (rules, v.len);
      below = still_below known target c.add.new.self low (length row) v.below (λ x is. (let same = e.one x is in omega (arith, same, less)));
      keeps = λ t x a. keeps t x (v.keeps t x a);
      allows = λ x h. elim (cases_lt x state) [
        | inl before ↦ keeps (slice_index row x) x (v.allows x before)
        | inr not ↦ (let now : state ≡ x = omega (arith, h, not) in
            subst (λ (y : ℕ). Allows (known_of (slice_set known target c.add.new.self) (slice_index row y)) y) now
            (subst (λ (p : Predecessors). Allows p state) (sym (at_place known target c.add.new.self low target refl)) e.allows))
      ];
    }
