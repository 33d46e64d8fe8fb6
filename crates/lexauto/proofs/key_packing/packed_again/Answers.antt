use Rattle.std.proofs.Common.{rules, ◌≡◌, ◌≤◌, ◌-◌, ◌∷◌, ℕ, List, drop, take, length, ap, ◌∙◌, arith}
use Rattle.std.proofs.lemmas.Bool.{le-ltb}
use Rattle.std.proofs.Math.Seq.{take-length}
use Rattle.lexauto.specs.KeyPacking.{word_count}
use Rattle.lexauto.proofs.Kept.{kept_as_it_is}
use Rattle.lexauto.proofs.key_packing.packed_again.Goals.{else-len-gt1-via-then-len-gt1+else-word_count-len, else-len-gt1-via-else-len-gt1}
use Rattle.lexauto.proofs.key_packing.packed_again.Goals as goal

pub returns : goal.returns
returns c = λ k is.
    let plain = c.args.plain.items in
    let size : length plain ≡ length (1 ∷ k) = ap (λ (l : List ℕ). length l) is in
    let few : length k ≤ word_count k = elim c.else-len-gt1.branch [
      | else-len-gt1-via-then-len-gt1+else-word_count-len w ↦
          (let tail : take (length w.deref.result.now - 1) (drop 1 w.deref.result.now) ≡ k =
          ap (λ (l : List ℕ). take (length l - 1) (drop 1 l)) (w.deref.ensures.value ∙ is) ∙ ap (λ (n : ℕ). take n k) (omega arith) ∙ take-length k in
          let count : w.word_count.result ≡ word_count k = w.word_count.ensures ∙ ap word_count tail in
          let more : length plain - 1 ≤ w.word_count.result = (let f = w.if-word_count-len.false in search (rules, f)) in
          omega (arith, size, count, more))
      | else-len-gt1-via-else-len-gt1 w ↦ (let none : length plain ≤ 1 = (let f = w.if-len-gt1.false in search (rules, f)) in omega (arith, size, none))
    ] in
    is ∙ kept_as_it_is k (le-ltb (word_count k) (length k) few)
