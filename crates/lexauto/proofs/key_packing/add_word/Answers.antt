use Rattle.std.proofs.Common.{◌≡◌, ℕ, ◌+◌, ◌-◌, ◌*◌, ◌<◌, ◌≤◌, ◌++◌, List, Vec, Global, sym, ap, ◌∙◌, arith}
use Rattle.std.proofs.lemmas.List.{append-nil}
use Rattle.lex_semantics.specs.Text.{listed}
use Rattle.lexauto.specs.KeyPacking.{bit_at, word_bits}
use Rattle.lexauto_positions.proofs.Numbers.{number_in, number_out}
use Rattle.lexauto.proofs.KeyBits.{bits_are, bit_is_set, bit_is_clear, no_bits, none_left}
use Rattle.lexauto.proofs.key_packing.add_word.Goals.{then-word-bit-eq1+in_ok-push, else-word-bit-eq1}
use Rattle.lexauto.proofs.key_packing.add_word.Goals as goal

pub returns-then-word-eq0 : goal.returns-then-word-eq0
returns-then-word-eq0 c =
    let key = c.args.key.now.items in
    sym (ap (λ (l : List ℕ). key ++ l) (no_bits c.args.words.now c.args.at c.if-word-eq0.true) ∙ append-nil key)

pub loop-bit-init : goal.loop-bit-init
loop-bit-init c =
    let at = c.args.at in
    let test = bit_at c.args.words.now in
    ap (λ (j : ℕ). c.args.key.now.items ++ listed test j (at * 32 + word_bits - j)) (let e : at * 32 + 0 ≡ at * 32 = omega arith in e)
    ∙ ap (λ (n : ℕ). c.args.key.now.items ++ listed test (at * 32) n) (let e : at * 32 + word_bits - at * 32 ≡ word_bits = omega arith in e)

pub loop-bit-preserved : goal.loop-bit-preserved
loop-bit-preserved c =
    let words = c.args.words.now in
    let test = bit_at words in
    let bit = c.loop-bit.bit in
    let at = c.args.at in
    let low : bit < 32 = c.loop-bit-test.true in
    let i = at * 32 + bit in
    let n = at * 32 + word_bits in
    let lt : i < n = omega (arith, bits_are, low) in
    let next : at * 32 + (bit + 1) ≡ i + 1 = omega arith in
    let goes_on = elim c.if-word-bit-eq1.branch as (λ _. c.if-word-bit-eq1.key.items ++ listed test (i + 1) (n - (i + 1)) ≡ c.loop-bit.key.items ++ listed test i (n - i)) [
      | then-word-bit-eq1+in_ok-push w ↦
          number_in test c.loop-bit.key.items c.if-word-bit-eq1.key.items i n lt (bit_is_set words at bit low w.if-word-bit-eq1.true) (ap (λ (v : Vec ℕ Global). v.items) w.key-is ∙ w.in_ok-push.ensures.items)
      | else-word-bit-eq1 w ↦
          number_out test c.loop-bit.key.items c.if-word-bit-eq1.key.items i n lt (bit_is_clear words at bit low w.if-word-bit-eq1.false) (ap (λ (v : Vec ℕ Global). v.items) w.key-is)
    ] in
    ap (λ (j : ℕ). c.if-word-bit-eq1.key.items ++ listed test j (n - j)) next ∙ goes_on ∙ c.loop-bit.invariant

pub returns : goal.returns
returns c =
    let words = c.args.words.now in
    let test = bit_at words in
    let key = c.loop-bit.key.items in
    let i = c.args.at * 32 + c.loop-bit.bit in
    let over : 32 ≤ c.loop-bit.bit = c.loop-bit-test.false in
    let none = none_left test i (c.args.at * 32 + word_bits - i) (omega (arith, bits_are, over)) in
    sym (append-nil key) ∙ sym (ap (λ (l : List ℕ). key ++ l) none) ∙ c.loop-bit.invariant
