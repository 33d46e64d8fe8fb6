use Rattle.std.proofs.Common.{rules, ◌≡◌, ℕ, ◌+◌, ◌<◌, ◌∷◌, List, Vec, Global, drop, length, sym, ap, ◌∙◌, arith}
use Rattle.std.specs.Prelude.{slice_index}
use Rattle.std.specs.List.{filter}
use Rattle.lexauto.specs.Sets.{marked_by}
use Rattle.lexauto.specs.KeyPacking.{with_bit, with_bits}
use Rattle.lexauto.proofs.PositionBits.{next_passes, next_fails}
use Rattle.lexauto.proofs.key_packing.marked_in.Goals.{then-is_marked_by, else-is_marked_by}
use Rattle.lexauto.proofs.key_packing.marked_in.Goals as goal

pub loop-position-preserved : goal.loop-position-preserved
loop-position-preserved c =
    let f = marked_by c.args.places.now c.args.marks.now in
    let l = c.args.positions.now in
    let i = c.loop-position.position-index in
    let low : i < length l = c.loop-position-test.true in
    let rest = filter f (drop (i + 1) l) in
    record {
      words = elim c.if-is_marked_by.branch [
        | then-is_marked_by w ↦
            (let here = next_passes f l i low (sym c.is_marked_by.ensures ∙ w.if-is_marked_by.true) in
            let set : c.if-is_marked_by.words.items ≡ with_bit c.loop-position.words.items (slice_index l i) = search rules in
            ap (λ ws. with_bits ws rest) set ∙ ap (with_bits c.loop-position.words.items) (sym here) ∙ c.loop-position.invariant.words)
        | else-is_marked_by w ↦
            (let here = next_fails f l i low (sym c.is_marked_by.ensures ∙ w.if-is_marked_by.false) in
            ap (λ (v : Vec ℕ Global). with_bits v.items rest) w.words-is ∙ ap (with_bits c.loop-position.words.items) (sym here) ∙ c.loop-position.invariant.words)
      ];
      number = elim c.if-is_marked_by.branch [
        | then-is_marked_by w ↦
            (let here = next_passes f l i low (sym c.is_marked_by.ensures ∙ w.if-is_marked_by.true) in
            omega (arith, w.number-is, ap (λ (m : List ℕ). length m) here, c.loop-position.invariant.number))
        | else-is_marked_by w ↦
            (let here = next_fails f l i low (sym c.is_marked_by.ensures ∙ w.if-is_marked_by.false) in
            omega (arith, w.number-is, ap (λ (m : List ℕ). length m) here, c.loop-position.invariant.number))
      ];
      few = elim c.if-is_marked_by.branch [
        | then-is_marked_by w ↦ omega (arith, w.number-is, c.loop-position.invariant.few)
        | else-is_marked_by w ↦ omega (arith, w.number-is, c.loop-position.invariant.few)
      ];
      last = elim c.if-is_marked_by.branch [
        | then-is_marked_by w ↦
            (let here = next_passes f l i low (sym c.is_marked_by.ensures ∙ w.if-is_marked_by.true) in
            ap (λ (x : ℕ). slice_index (x ∷ rest) (length rest)) w.last-is
            ∙ ap (λ (m : List ℕ). slice_index (c.loop-position.last ∷ m) (length m)) (sym here) ∙ c.loop-position.invariant.last)
        | else-is_marked_by w ↦
            (let here = next_fails f l i low (sym c.is_marked_by.ensures ∙ w.if-is_marked_by.false) in
            ap (λ (x : ℕ). slice_index (x ∷ rest) (length rest)) w.last-is
            ∙ ap (λ (m : List ℕ). slice_index (c.loop-position.last ∷ m) (length m)) (sym here) ∙ c.loop-position.invariant.last)
      ];
    }
