use Rattle.std.proofs.Common.{rules, ℕ, ◌+◌, ◌-◌, ◌*◌, ◌<◌, ◌≤◌, ◌++◌, List, min, length, sym, ap, ◌∙◌, arith}
use Rattle.std.proofs.lemmas.List.{append-nil, append_assoc}
use Rattle.lex_semantics.specs.Text.{listed}
use Rattle.lexauto.specs.KeyPacking.{bit_at, word_bits}
use Rattle.lexauto.proofs.KeyBits.{word_more, none_left}
use Rattle.lexauto.proofs.key_packing.add_words.Goals as goal

pub loop-at-preserved : goal.loop-at-preserved
loop-at-preserved c =
    let test = bit_at c.args.words.now in
    let n = min (length c.args.words.now) 512 in
    let at = c.loop-at.at in
    let lt : at < n = search rules in
    let rest = listed test ((at + 1) * 32) ((n - (at + 1)) * 32) in
    ap (λ (l : List ℕ). l ++ rest) c.in_ok-add_word.ensures
    ∙ append_assoc c.loop-at.key.items (listed test (at * 32) word_bits) rest
    ∙ ap (λ (l : List ℕ). c.loop-at.key.items ++ l) (word_more test at n lt) ∙ c.loop-at.invariant

pub returns : goal.returns
returns c =
    let test = bit_at c.args.words.now in
    let n = min (length c.args.words.now) 512 in
    let key = c.loop-at.key.items in
    let over : n ≤ c.loop-at.at = search rules in
    let none = none_left test (c.loop-at.at * 32) ((n - c.loop-at.at) * 32) (omega (arith, over)) in
    sym (append-nil key) ∙ sym (ap (λ (l : List ℕ). key ++ l) none) ∙ c.loop-at.invariant
