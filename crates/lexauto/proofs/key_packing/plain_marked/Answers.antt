use Rattle.std.proofs.Common.{ℕ, ◌+◌, ◌<◌, ◌∷◌, ◌++◌, [], List, Vec, Global, drop, length, sym, ap, ◌∙◌, arith, length-append}
use Rattle.std.specs.Prelude.{slice_index}
use Rattle.std.specs.List.{filter}
use Rattle.std.proofs.lemmas.List.{append_assoc}
use Rattle.lexauto.specs.Sets.{marked_by}
use Rattle.lexauto.proofs.PositionBits.{next_passes, next_fails}
use Rattle.lexauto.proofs.key_packing.plain_marked.Goals.{then-is_marked_by+in_ok-push-3, else-is_marked_by}
use Rattle.lexauto.proofs.key_packing.plain_marked.Goals as goal

pub loop-position-preserved : goal.loop-position-preserved
loop-position-preserved c =
    let f = marked_by c.args.places.now c.args.marks.now in
    let l = c.args.positions.now in
    let i = c.loop-position.position-index in
    let low : i < length l = c.loop-position-test.true in
    let rest = filter f (drop (i + 1) l) in
    record {
      told = elim c.if-is_marked_by.branch [
        | then-is_marked_by+in_ok-push-3 w ↦
            (let here = next_passes f l i low (sym c.is_marked_by.ensures ∙ w.if-is_marked_by.true) in
            ap (λ (v : Vec ℕ Global). v.items ++ rest) w.plain-is ∙ ap (λ (ns : List ℕ). ns ++ rest) w.in_ok-push-3.ensures.items
            ∙ append_assoc c.loop-position.plain.items (slice_index l i ∷ []) rest ∙ ap (λ (ns : List ℕ). c.loop-position.plain.items ++ ns) (sym here) ∙ c.loop-position.invariant.told)
        | else-is_marked_by w ↦
            (let here = next_fails f l i low (sym c.is_marked_by.ensures ∙ w.if-is_marked_by.false) in
            ap (λ (v : Vec ℕ Global). v.items ++ rest) w.plain-is ∙ ap (λ (ns : List ℕ). c.loop-position.plain.items ++ ns) (sym here) ∙ c.loop-position.invariant.told)
      ];
      some = elim c.if-is_marked_by.branch [
        | then-is_marked_by+in_ok-push-3 w ↦ omega (
          arith,
          ap (λ (v : Vec ℕ Global). length v.items) w.plain-is,
          ap (λ (ns : List ℕ). length ns) w.in_ok-push-3.ensures.items,
          length-append c.loop-position.plain.items (slice_index l i ∷ []),
          c.loop-position.invariant.some,
        )
        | else-is_marked_by w ↦ omega (arith, ap (λ (v : Vec ℕ Global). length v.items) w.plain-is, c.loop-position.invariant.some)
      ];
    }
