use Rattle.std.proofs.Common.{rules, ◌≡◌, ◌+◌, ◌-◌, ◌<◌, ◌≤◌, ℕ, Bool, false, length, sym, ap, subst, ◌∙◌, arith}
use Rattle.lex_semantics.specs.ByteSets.{has}
use Rattle.lex_semantics.specs.Text.{flag}
use Rattle.lexauto_positions.specs.Letters.{reads_at}
use Rattle.lexauto.specs.Moving.{AreKinds}
use Rattle.lexauto.specs.declared.kinds.Kinds.{Kinds}
use Rattle.lexauto.proofs.kinds.kinds_of.Goals.{then-byte-gt0+then-not-contains+in_ok-add_again, else-byte-gt0+in_ok-mask+in_ok-add}
use Rattle.lexauto.proofs.kinds.kinds_of.Goals as goal

pub loop-byte-preserved : goal.loop-byte-preserved
loop-byte-preserved c =
    let byte = c.loop-byte.byte in
    let reads : ℕ → ℕ → Bool = λ b q. reads_at c.args.letters.now b q 0 in
    let count : length c.loop-byte.kinds.places.items ≡ byte = c.loop-byte.invariant.len in
    record {
      len = elim c.if-byte-gt0.branch [
        | then-byte-gt0+then-not-contains+in_ok-add_again w ↦ ap (λ (k : Kinds). length k.places.items) w.kinds-is ∙ w.in_ok-add_again.ensures.len ∙ ap (λ (n : ℕ). n + 1) count
        | else-byte-gt0+in_ok-mask+in_ok-add w ↦ ap (λ (k : Kinds). length k.places.items) w.kinds-is ∙ w.in_ok-add.ensures.len ∙ ap (λ (n : ℕ). n + 1) count
      ];
      few = elim c.if-byte-gt0.branch [
        | then-byte-gt0+then-not-contains+in_ok-add_again w ↦
            (let few = c.loop-byte.invariant.few in
            omega (arith, few, ap (λ (k : Kinds). length k.places.items) w.kinds-is, ap (λ (k : Kinds). length k.kinds.items) w.kinds-is, w.in_ok-add_again.ensures.len, ap length w.in_ok-add_again.ensures.kinds))
        | else-byte-gt0+in_ok-mask+in_ok-add w ↦ subst (λ (k : Kinds). length k.kinds.items ≤ length k.places.items) (sym w.kinds-is) w.in_ok-add.ensures.few
      ];
      are = elim c.if-byte-gt0.branch [
        | then-byte-gt0+then-not-contains+in_ok-add_again w ↦
            (let low : byte < 256 = c.loop-byte-test.true in
            let some : 1 ≤ byte = (let f = w.if-byte-gt0.true in search (rules, f)) in
            let none : has c.united-changing.result byte ≡ false = (let f = w.if-not-contains.true in search (rules, f)) in
            let same : (q : ℕ) → reads (byte - 1) q ≡ reads byte q = λ q. c.requires q byte some low (c.united-changing.ensures q byte low none) in
            subst (λ (k : Kinds). AreKinds reads k.kinds.items k.places.items) (sym w.kinds-is)
            (w.in_ok-add_again.ensures.are reads c.loop-byte.invariant.are (λ q. subst (λ (n : ℕ). reads (n - 1) q ≡ reads n q) (sym count) (same q))))
        | else-byte-gt0+in_ok-mask+in_ok-add w ↦
            (let told : (q : ℕ) → flag w.marks_or_none.result.items q ≡ reads byte q = λ q. w.marks_or_none.ensures q ∙ w.in_ok-mask.ensures q in
            subst (λ (k : Kinds). AreKinds reads k.kinds.items k.places.items) (sym w.kinds-is)
            (w.in_ok-add.ensures.are reads c.loop-byte.invariant.are (λ q. told q ∙ ap (λ (n : ℕ). reads n q) (sym count))))
      ];
    }
