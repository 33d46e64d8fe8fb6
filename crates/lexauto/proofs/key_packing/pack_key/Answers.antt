use Rattle.std.proofs.Common.{rules, ◌≡◌, ℕ, ◌∷◌, List, true, length, IfOk, sym, ap, subst, ◌∙◌}
use Rattle.std.specs.Prelude.{nat_lt}
use Rattle.std.specs.Str.{bytes_eq}
use Rattle.lexauto.specs.KeyPacking.{unpacked, bits_of, packed, word_count}
use Rattle.lexauto.proofs.Kept.{kept_as_bits, kept_as_it_is, kept_if_other}
use Rattle.lexauto.proofs.key_packing.pack_key.Goals.{then-count-key+in_ok-words+in_ok-bits+in_ok-again+else-eq, else-count-key}
use Rattle.lexauto.proofs.key_packing.pack_key.Goals as goal

pub returns-then-eq : goal.returns-then-eq
returns-then-eq c =
    let k = c.args.key.now in
    let bits : c.in_ok-bits.bits.items ≡ bits_of k = search rules in
    let fewer : nat_lt (word_count k) (length k) ≡ true = search rules in
    let again : c.in_ok-again.again.items ≡ unpacked (bits_of k) = c.in_ok-again.ensures ∙ ap unpacked (c.deref-then-count-key.ensures.value ∙ bits) in
    let same : bytes_eq (unpacked (bits_of k)) k ≡ true =
    ap (λ (l : List ℕ). bytes_eq l k) (sym again ∙ sym c.as_slice.ensures.value) ∙ sym c.eq.ensures ∙ c.if-eq.true in
    bits ∙ kept_as_bits k fewer same

pub returns : goal.returns
returns c =
    let k = c.args.key.now in
    let plain : 1 ∷ k ≡ packed k = elim c.if-count-key.branch [
      | then-count-key+in_ok-words+in_ok-bits+in_ok-again+else-eq w ↦
          (let bits : w.in_ok-bits.bits.items ≡ bits_of k = search rules in
          let again : w.in_ok-again.again.items ≡ unpacked (bits_of k) = w.in_ok-again.ensures ∙ ap unpacked (w.deref-then-count-key.ensures.value ∙ bits) in
          kept_if_other k (ap (λ (l : List ℕ). bytes_eq l k) (sym again ∙ sym w.as_slice.ensures.value) ∙ sym w.eq.ensures ∙ w.if-eq.false))
      | else-count-key w ↦
          kept_as_it_is k (let f = w.if-count-key.false in search (rules, f))
    ] in
    subst (λ (l : List ℕ). IfOk c.behind-2.result (λ v. v.items ≡ l)) plain c.behind-2.ensures
